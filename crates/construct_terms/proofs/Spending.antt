-- Which texts were tried, one candidate after the other.
use Rattle.std.proofs.Common.{◌≡◌, ◌+◌, ◌≤◌, ℕ, List, [], ◌∷◌, ◌++◌, All, length, length-append, subst, arith}
use Rattle.std.specs.List.{Contains}
use Rattle.std.proofs.lemmas.List.Elements.{All-append, All-cons, All-contains, All-nil, All-weaker}
use Rattle.syntax_tree.specs.Tallies.{Tallies}
use Rattle.asked_node.specs.Trials.{AreReplaced, IsReplaced}
use Rattle.query_engine.specs.declared.trials.Replacement.{Replacement}

-- at most n texts were tried, each by one of these candidates
pub record TriedSoFar {S : Type 0} (spends : S → List (List ℕ) → S → Tallies → Tallies → Type 0) (text : List ℕ) (rs : List Replacement) (n : ℕ) (s t : S) (a b : Tallies) : Type 0 where
  pub tried : List (List ℕ)
  pub each : All (IsReplaced text rs) tried
  pub few : length tried ≤ n
  pub spent : spends s tried t a b

-- Before the first candidate no text was tried.
pub tried_first : {S : Type 0} (spends : S → List (List ℕ) → S → Tallies → Tallies → Type 0) (text : List ℕ) (rs : List Replacement) (s : S) (a : Tallies) → spends s [] s a a → TriedSoFar spends text rs 0 s s a a
tried_first spends text rs s a starts = record { tried = []; each = All-nil (IsReplaced text rs); few = omega arith; spent = starts }

-- The text with one replacement made is the text with one of any list made that has it.
one_of : (text : List ℕ) (rs : List Replacement) (r : Replacement) → Contains rs r → (c : List ℕ) → IsReplaced text (r ∷ []) c → IsReplaced text rs c
one_of text rs r has c (q, among, is, short) = (q, All-contains (Contains rs) (r ∷ []) q (All-cons (Contains rs) r [] has (All-nil (Contains rs))) among, is, short)

-- One candidate more tries one text more at most.
pub tried_next : {S : Type 0} (spends : S → List (List ℕ) → S → Tallies → Tallies → Type 0) → ((s t u : S) (xs ys : List (List ℕ)) (a b c : Tallies) → spends s xs t a b → spends t ys u b c → spends s (ys ++ xs) u a c)
    → (text there : List ℕ) (rs : List Replacement) (r : Replacement) (n m : ℕ) (s t u : S) (a b c : Tallies) → n + 1 ≤ m → Contains rs r → there ≡ text → TriedSoFar spends text rs n s t a b
    → (tried : List (List ℕ)) × AreReplaced there (r ∷ []) tried × spends t tried u b c → TriedSoFar spends text rs m s u a c
tried_next spends joins text there rs r n m s t u a b c le has same so (tried, are, spent) =
    let here : AreReplaced text (r ∷ []) tried = subst (λ (l : List ℕ). AreReplaced l (r ∷ []) tried) same are in
    let few = here.few in record {
      tried = tried ++ so.tried;
      each = All-append (IsReplaced text rs) tried so.tried (All-weaker (IsReplaced text (r ∷ [])) (IsReplaced text rs) (one_of text rs r has) tried here.each) so.each;
      few = omega (arith, few, so.few, le, length-append tried so.tried);
      spent = joins s t u so.tried tried a b c so.spent spent;
    }

-- After the last one these are the texts that were tried.
pub tried_all : {S : Type 0} (spends : S → List (List ℕ) → S → Tallies → Tallies → Type 0) (text : List ℕ) (rs : List Replacement) (n : ℕ) (s t : S) (a b : Tallies) → n ≤ length rs → TriedSoFar spends text rs n s t a b
    → (tried : List (List ℕ)) × AreReplaced text rs tried × spends s tried t a b
tried_all spends text rs n s t a b le so = (so.tried, record { each = so.each; few = omega (arith, so.few, le) }, so.spent)
