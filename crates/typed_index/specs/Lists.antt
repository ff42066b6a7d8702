-- What lists of notes have for each node.
use Rattle.std.specs.Prelude.{ℕ, zero, suc, ◌&&◌, ◌==◌, nat_lt, List, [], ◌∷◌, Option, Some, None, if◌then◌else◌}
use Rattle.std.specs.declared.vec.Vec.{Vec}
use Rattle.std.specs.declared.alloc.Global.{Global}

-- what is recorded in an item's list for a number
abbrev pub seen_in : {S : Type 0} → List (Option S) → ℕ → Option S
seen_in [] p = None
seen_in (s ∷ nodes) zero = s
seen_in (s ∷ nodes) (suc p) = seen_in nodes p

-- what is recorded for an item and a number in it
abbrev pub seen_among : {S : Type 0} → List (Vec (Option S) Global) → ℕ → ℕ → Option S
seen_among [] i p = None
seen_among (nodes ∷ items) zero p = seen_in nodes.items p
seen_among (nodes ∷ items) (suc i) p = seen_among items i p

-- the same with something recorded at a number
abbrev pub at_number : {S : Type 0} → ℕ → S → (ℕ → Option S) → ℕ → Option S
at_number n s seen p = if n == p then Some s else seen p

-- the same with something recorded for a node
abbrev pub with_note : {S : Type 0} → ℕ → ℕ → S → (ℕ → ℕ → Option S) → ℕ → ℕ → Option S
with_note item pre s seen i p = if item == i && pre == p then Some s else seen i p

-- the same for the items before one, and nothing from it on
abbrev pub before_item : {S : Type 0} → ℕ → (ℕ → ℕ → Option S) → ℕ → ℕ → Option S
before_item item seen i p = if nat_lt i item then seen i p else None
