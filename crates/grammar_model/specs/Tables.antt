-- A table of rows, by what is asked of it.
use Rattle.std.specs.Prelude.{ℕ, Bool, true, false, nat_le, nat_lt, nat_eq, Option, Some, None, List, [], ◌∷◌, if◌then◌else◌}

-- the sorts of whole texts, a program and a signature; no operand has one of them
abbrev pub is_text : ℕ → Bool
is_text s = nat_lt s 2

-- what stands at a spot of a row
pub data What : Type 0 where
  nothing : What  -- the row's start, or behind its left operand
  token : List ℕ → What  -- one token with one of these keys
  operand : ℕ → ℕ → What  -- an operand of this sort and level

-- a spot that may come next; `behind` is the row that the operand before it must have, if any
pub record Edge : Type 0 where
  pub spot : ℕ
  pub behind : Option ℕ

-- what the last part of a row in progress is: the operand in a slot, or none
pub data Last : Type 0 where
  plain : Last
  hole : Last
  row : ℕ → Last

-- what the grammar asks of a table of rows
pub record Table : Type 0 where
  pub root : ℕ  -- the row of a whole text
  pub sort : ℕ → ℕ  -- of a row
  pub stand : ℕ → ℕ  -- the highest level of a slot in which the row may stand
  pub has_left : ℕ → Bool
  pub left_ok : ℕ → Last → Bool  -- may the row have this left operand
  pub what : ℕ → ℕ → What  -- at a spot of a row
  pub next : ℕ → ℕ → List Edge  -- behind a spot of a row, in order
  pub ends : ℕ → ℕ → Bool  -- may the row end behind the spot
  pub chain : ℕ → ℕ → List ℕ  -- the rows that a key begins in an operand of a sort, from the outermost; none: []
  pub grower : ℕ → ℕ → Option ℕ  -- the row by which a key grows an operand of a sort

-- the key is one of these
abbrev pub has : List ℕ → ℕ → Bool
has [] k = false
has (x ∷ xs) k = if nat_eq x k then true else has xs k

-- the first of these rows may stand in slots of the level
abbrev pub begins_by : Table → ℕ → List ℕ → Bool
begins_by G n [] = false
begins_by G n (r ∷ rs) = nat_le n (G.stand r)

-- the key stands at, or begins, this
abbrev pub takes : Table → What → ℕ → Bool
takes G nothing k = false
takes G (token ks) k = has ks k
takes G (operand s n) k = begins_by G n (G.chain s k)

-- the row may stand in slots of the level and have the operand on its left
abbrev pub grows_by : Table → ℕ → Last → Option ℕ → Bool
grows_by G n last None = false
grows_by G n last (Some g) = if nat_le n (G.stand g) then G.left_ok g last else false

-- the key grows the last operand, which stands in this
abbrev pub grows : Table → What → Last → ℕ → Bool
grows G (operand s n) last k = grows_by G n last (G.grower s k)
grows G (token ks) last k = false
grows G nothing last k = false

-- the spot may come behind this operand
abbrev pub allowed : Option ℕ → Last → Bool
allowed None last = true
allowed (Some r) (row q) = nat_eq r q
allowed (Some r) plain = false
allowed (Some r) hole = false

-- the places in a row in progress
pub data Place : Type 0 where
  nowhere : Place
  growth : Place
  at_spot : ℕ → Place

-- the first of these spots that takes the key
abbrev pub first_spot : Table → ℕ → Last → ℕ → List Edge → Place
first_spot G r last k [] = nowhere
first_spot G r last k (e ∷ es) = if allowed e.behind last then (if takes G (G.what r e.spot) k then at_spot e.spot else first_spot G r last k es) else first_spot G r last k es

-- the first place that may take the key in a row in progress: growth of its last operand, then the next parts in order
unfoldable pub first_place : Table → ℕ → ℕ → Last → ℕ → Place
first_place G r at last k = if grows G (G.what r at) last k then growth else first_spot G r last k (G.next r at)
