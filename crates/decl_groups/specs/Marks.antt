-- Marks of the declarations of a group, by their places.
use Rattle.std.specs.Prelude.{◌≡◌, ℕ, Bool, false, List, slice_get, Option, Some, None}

-- whether a mark is there and set
abbrev pub mark_of : Option Bool → Bool
mark_of None = false
mark_of (Some b) = b

-- no place is marked
abbrev pub AreUnset : List Bool → Type 0
AreUnset ms = (k : ℕ) → mark_of (slice_get ms k) ≡ false
