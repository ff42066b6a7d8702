-- The parts of type expressions, and several types in parentheses.
use Rattle.std.specs.Prelude.{ℕ, List, [], ◌∷◌, Option, Some, None}
use Rattle.tree_model.specs.Trees.{Tree, Part, node, taken, inner, missing}
use Rattle.tree_model.specs.Rows.{Row, tparen_row, ttuple_row, tarrow_row}
use Rattle.row_parts.specs.Numbered.{Numbered, operands_in, all_operands}

-- at least two of these
abbrev pub at_least_two : List Numbered → Option (List Numbered)
at_least_two [] = None
at_least_two (t ∷ []) = None
at_least_two (t ∷ u ∷ ts) = Some (t ∷ u ∷ ts)

-- several types, where the row is that of parentheses
abbrev pub several_in_row : Row → List Numbered → Option (List Numbered)
several_in_row tparen_row ts = at_least_two ts
several_in_row _ ts = None

-- in a part with this number
abbrev pub several_in_part : ℕ → Part → Option (List Numbered)
several_in_part n (taken t) = None
several_in_part n (inner (node r x ps)) = several_in_row r (operands_in n (node r x ps) 1)
several_in_part n (missing at) = None

-- several types in parentheses
abbrev pub several : Numbered → Option (List Numbered)
several o = several_in_part o.number o.part

-- the parts of a row that isn't an application, in order
unfoldable pub parts_by_row : Row → ℕ → Tree → List Numbered
parts_by_row tparen_row n t = operands_in n t 1
parts_by_row ttuple_row n t = all_operands n t
parts_by_row tarrow_row n t = all_operands n t
parts_by_row _ n t = []

-- those of a type expression with this number
abbrev pub parts_read : ℕ → Tree → List Numbered
parts_read n (node r x ps) = parts_by_row r n (node r x ps)
