-- The demands of a text as they stand in it: where each is told, and what it is.
use Rattle.std.specs.Prelude.{ℕ, Bool, true, List, [], ◌∷◌}
use Rattle.tree_model.specs.Trees.{Tree}
use Rattle.signature_model.specs.Entries.{Environment}
use Rattle.typing_model.specs.Demands.{Site, Complaint, Demand, equal, test, agrees, matches, closes, Condition, same, instance, made, known, demand, treated}
use Rattle.typing_model.specs.Typings.{conditions_of, no_choice}

-- what a demand is
pub data What : Type 0 where
  -- that two types are one
  types : What
  -- that a test on names holds, and whether it does
  names : Complaint → Bool → What
  -- that two declarations tell the same
  declarations : Complaint → What
  -- that a signature matches another
  signatures : What
  -- that a body closes
  body : What

-- a demand, and the bytes at which it is told
pub data Asked : Type 0 where
  at : ℕ → ℕ → What → Asked

-- what a demand is
abbrev pub what_of : Demand → What
what_of (equal t u) = types
what_of (test c b) = names c b
what_of (agrees c n s t) = declarations c
what_of (matches s t) = signatures
what_of (closes e s) = body

-- the demands among conditions, in order
abbrev pub asked_in : List Condition → List Asked
asked_in [] = []
asked_in (same t u ∷ cs) = asked_in cs
asked_in (instance s t ∷ cs) = asked_in cs
asked_in (made n t ∷ cs) = asked_in cs
asked_in (known t ∷ cs) = asked_in cs
asked_in (demand s p d ∷ cs) = at p.start p.end (what_of d) ∷ asked_in cs
asked_in (treated n e ∷ cs) = asked_in cs

-- all demands are kept
abbrev pub all_kept : Site → Bool
all_kept s = true

-- the demands of a text in order, where these are kept
abbrev pub asked : Environment → List Tree → (Site → Bool) → List Asked
asked env text kept = asked_in (conditions_of env text kept no_choice)
