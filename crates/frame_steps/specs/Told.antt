-- What the parser's faults tell.
use Rattle.std.specs.Prelude.{ℕ, List, [], ◌∷◌, Option, Some, None}
use Rattle.tree_model.specs.Trees.{Place, place}
use Rattle.recovery_model.specs.Steps as recovery
use Rattle.recovery_model.specs.Steps.{Fault}

-- what a fault of the parser tells: the place and number of missing parts, the place of the token that is left out, or the place at which an item ends
pub data Told : Type 0 where
  added : ℕ → ℕ → Told
  skipped : Place → Told
  too_deep : Place → Told
  cut : ℕ → Told

-- what a fault tells, with the place of its token
abbrev pub told : Fault → Told
told (recovery.added p h) = added p h
told (recovery.skipped t) = skipped (place t.start t.end)
told (recovery.too_deep t) = too_deep (place t.start t.end)
told (recovery.cut p) = cut p

-- a value that may be none, as a list
abbrev pub listed : {A : Type 0} → Option A → List A
listed None = []
listed (Some a) = a ∷ []
