-- Which texts were tried.
use Rattle.std.proofs.Common.{◌≡◌, ◌≤◌, ℕ, List, [], ◌∷◌, length, refl, arith}
use Rattle.std.proofs.lemmas.List.Elements.{All-cons, All-nil}
use Rattle.text_model.specs.Edits.{text_limit}
use Rattle.asked_node.specs.Trials.{AreReplaced, IsReplaced, replaced}
use Rattle.query_engine.specs.declared.trials.Replacement.{Replacement}

-- none
pub tried_none : (text : List ℕ) (rs : List Replacement) → AreReplaced text rs []
tried_none text rs = record { each = All-nil (IsReplaced text rs); few = omega arith }

-- one
pub tried_one : (text tried : List ℕ) (r : Replacement) → tried ≡ replaced text r → length tried ≤ text_limit → AreReplaced text (r ∷ []) (tried ∷ [])
tried_one text tried r is short = record {
  each = All-cons (IsReplaced text (r ∷ [])) tried [] (r, (0, omega arith, refl), is, short) (All-nil (IsReplaced text (r ∷ [])));
  few = omega arith;
}
