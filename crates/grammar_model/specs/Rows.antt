-- Tables that are lists of rows, and what is checked of one.
use Rattle.std.specs.Prelude.{ℕ, zero, suc, ◌+◌, Bool, true, false, ◌&&◌, not, nat_le, nat_lt, nat_eq, Option, Some, None, List, [], ◌∷◌, if◌then◌else◌, slice_get}
use Rattle.grammar_model.specs.Tables.{Table, What, nothing, token, operand, Edge, Last, plain, hole, row, has}

-- the left operand of a row: none, one of a level or a higher one, or one of the rows of a name
pub data Left : Type 0 where
  no_left : Left
  level : ℕ → Left
  named : ℕ → Left

-- what stands at a spot, which spots may come behind it, in order, and whether the row may end behind it
pub record Spot : Type 0 where
  pub what : What
  pub next : List Edge
  pub ends : Bool

-- a row: `stand` is the highest level of a slot in which it may stand
pub record Row : Type 0 where
  pub name : ℕ
  pub sort : ℕ
  pub left : Left
  pub level : ℕ
  pub stand : ℕ
  pub spots : List Spot

-- a spot behind every operand
abbrev pub edge : ℕ → Edge
edge p = record { spot = p; behind = None }

-- a spot behind an operand of one row alone
abbrev pub edge_behind : ℕ → ℕ → Edge
edge_behind p r = record { spot = p; behind = Some r }

-- a spot: what stands at it, what may come behind it, and whether the row may end there
abbrev pub spot : What → List Edge → Bool → Spot
spot w es b = record { what = w; next = es; ends = b }

-- a row: its name, sort, left operand, level, highest level of a slot in which it may stand, and spots
abbrev pub a_row : ℕ → ℕ → Left → ℕ → ℕ → List Spot → Row
a_row n s l v st ps = record { name = n; sort = s; left = l; level = v; stand = st; spots = ps }

-- what stands for a row that isn't there
abbrev pub no_row : Row
no_row = a_row 0 0 no_left 0 0 []

-- what stands for a spot that isn't there
abbrev pub no_spot : Spot
no_spot = spot nothing [] true

-- the value of an option, or this one where it has none
abbrev pub or_else : {A : Type 0} → A → Option A → A
or_else a None = a
or_else a (Some b) = b

-- the row of a number
abbrev pub row_at : List Row → ℕ → Row
row_at rows r = or_else no_row (slice_get rows r)

-- the spot of a number in a row
abbrev pub spot_at : Row → ℕ → Spot
spot_at w p = or_else no_spot (slice_get w.spots p)

-- a left operand is needed
abbrev pub is_left : Left → Bool
is_left no_left = false
is_left (level n) = true
is_left (named n) = true

-- the newest part of a slot may be the left operand of a row of this sort
abbrev pub left_takes : List Row → Left → ℕ → Last → Bool
left_takes rows no_left s last = false
left_takes rows (level n) s plain = false
left_takes rows (level n) s hole = true
left_takes rows (level n) s (row q) = nat_eq (row_at rows q).sort s && nat_le n (row_at rows q).level
left_takes rows (named m) s plain = false
left_takes rows (named m) s hole = false
left_takes rows (named m) s (row q) = nat_eq (row_at rows q).sort s && nat_eq (row_at rows q).name m

-- what a row begins with
abbrev pub first_what : Row → What
first_what w = (spot_at w (or_else (edge 0) (slice_get (spot_at w 0).next 0)).spot).what

-- the first of two chains that isn't empty
abbrev pub or_chain : List ℕ → List ℕ → List ℕ
or_chain [] ys = ys
or_chain (x ∷ xs) ys = x ∷ xs

-- a row in front of a chain, whose first row may stand in its slot
abbrev pub put_before : List Row → ℕ → ℕ → List ℕ → List ℕ
put_before all n i [] = []
put_before all n i (q ∷ qs) = if nat_le n (row_at all q).stand then i ∷ q ∷ qs else []

-- the row with its number in front of the rows that its first part begins, where the part takes the key
abbrev pub chain_by : List Row → (ℕ → ℕ → List ℕ) → ℕ → What → ℕ → List ℕ
chain_by all deeper i nothing k = []
chain_by all deeper i (token ks) k = if has ks k then i ∷ [] else []
chain_by all deeper i (operand s n) k = put_before all n i (deeper s k)

-- the chain of the first of these rows that has one
abbrev pub chain_in : List Row → (ℕ → ℕ → List ℕ) → ℕ → List Row → ℕ → ℕ → List ℕ
chain_in all deeper i [] s k = []
chain_in all deeper i (w ∷ ws) s k = if nat_eq w.sort s && not (is_left w.left) then or_chain (chain_by all deeper i (first_what w) k) (chain_in all deeper (i + 1) ws s k) else chain_in all deeper (i + 1) ws s k

-- the rows that a key begins in an operand of a sort, from the outermost, at most so many
abbrev pub chain_to : ℕ → List Row → ℕ → ℕ → List ℕ
chain_to zero rows s k = []
chain_to (suc depth) rows s k = chain_in rows (chain_to depth rows) 0 rows s k

-- the first row of a chain may stand in slots of the level
abbrev pub head_stands : List Row → ℕ → List ℕ → Bool
head_stands all n [] = false
head_stands all n (q ∷ qs) = nat_le n (row_at all q).stand

-- the key stands at, or begins, this
abbrev pub what_takes : List Row → (ℕ → ℕ → List ℕ) → What → ℕ → Bool
what_takes all chain nothing k = false
what_takes all chain (token ks) k = has ks k
what_takes all chain (operand s n) k = head_stands all n (chain s k)

-- the row with a left operand whose first part takes the key
abbrev pub grower_in : List Row → (ℕ → ℕ → List ℕ) → ℕ → List Row → ℕ → ℕ → Option ℕ
grower_in all chain i [] s k = None
grower_in all chain i (w ∷ ws) s k = if nat_eq w.sort s && is_left w.left && what_takes all chain (first_what w) k then Some i else grower_in all chain (i + 1) ws s k

-- how many sorts and keys a table has
pub record Sizes : Type 0 where
  pub sorts : ℕ
  pub keys : ℕ

-- the rows that a key begins in an operand of a sort, from the outermost
unfoldable pub chain_of : Sizes → List Row → ℕ → ℕ → List ℕ
chain_of z rows s k = if nat_lt s z.sorts && nat_lt k z.keys then chain_to 4 rows s k else []

-- the row by which a key grows an operand of a sort
unfoldable pub grower_of : Sizes → List Row → ℕ → ℕ → Option ℕ
grower_of z rows s k = if nat_lt s z.sorts && nat_lt k z.keys then grower_in rows (chain_to 4 rows) 0 rows s k else None

-- the table of rows of which one is the row of a whole text
abbrev pub table_of : ℕ → Sizes → List Row → Table
table_of root z rows = record {
  root = root;
  sort = λ r. (row_at rows r).sort;
  stand = λ r. (row_at rows r).stand;
  has_left = λ r. is_left (row_at rows r).left;
  left_ok = λ r last. left_takes rows (row_at rows r).left (row_at rows r).sort last;
  what = λ r p. (spot_at (row_at rows r) p).what;
  next = λ r p. (spot_at (row_at rows r) p).next;
  ends = λ r p. (spot_at (row_at rows r) p).ends;
  chain = chain_of z rows;
  grower = grower_of z rows;
}
