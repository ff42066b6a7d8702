-- The rows of the nodes of a text, by their numbers.
use Rattle.std.specs.Prelude.{ℕ, zero, suc, List, [], ◌∷◌, ◌++◌, map, slice_get, Option, Some, None, option_map, if◌then◌else◌}
use Rattle.tree_model.specs.Rows.{Row}
use Rattle.tree_model.specs.Slots.{is_operand}
use Rattle.tree_model.specs.Trees.{Tree, Forest, Part, node, no_parts, part, taken, inner, missing}
use Rattle.syntax_tree.specs.Names.{row_of}
use Rattle.syntax_tree.specs.declared.rows.RowName.{RowName}

-- a missing part counts as a node where it is an operand, though it has no row
abbrev pub missing_row : Row → ℕ → List (Option Row)
missing_row r slot = if is_operand r slot then None ∷ [] else []

-- the row of each node in preorder; a missing operand has none
abbrev mutual
  pub rows_of : Tree → List (Option Row)
  rows_of (node r x ps) = Some r ∷ rows_among r ps

  -- the same of the parts of a node, in order
  pub rows_among : Row → Forest → List (Option Row)
  rows_among r no_parts = []
  rows_among r (part slot p ps) = rows_in r slot p ++ rows_among r ps

  -- the same of a part in a slot
  pub rows_in : Row → ℕ → Part → List (Option Row)
  rows_in r slot (taken t) = []
  rows_in r slot (inner t) = rows_of t
  rows_in r slot (missing p) = missing_row r slot

-- the rows of the code, in order
abbrev pub rows_view : List (Option RowName) → List (Option Row)
rows_view rs = map (option_map row_of) rs

-- the row of a number, from 0
abbrev pub flattened : Option (Option Row) → Option Row
flattened None = None
flattened (Some r) = r

-- the row of a number among rows, from 0
abbrev pub numbered : ℕ → List (Option Row) → Option Row
numbered n rs = flattened (slice_get rs n)

-- the item of a number, from 1
abbrev pub item_at : List Tree → ℕ → Option Tree
item_at ts zero = None
item_at ts (suc i) = slice_get ts i

-- the row of a number in an item
abbrev pub row_in_item : Option Tree → ℕ → Option Row
row_in_item None n = None
row_in_item (Some t) n = numbered n (rows_of t)

-- the row of a node of a text, by its item and its number there; none of a missing operand
abbrev pub row_at : List Tree → ℕ → ℕ → Option Row
row_at ts i n = row_in_item (item_at ts i) n
