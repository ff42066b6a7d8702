-- What each row of type expressions asks: for its parts, and at its end.
use Rattle.std.specs.Prelude.{ℕ, List, [], ◌∷◌, map}
use Rattle.tree_model.specs.Rows.{Row, tvar_row, tcon_row, tparen_row, tapp_row, ttuple_row, tarrow_row}
use Rattle.tree_model.specs.Trees.{Place, Tree}
use Rattle.type_model.specs.Types.{Arrow, Tuple, types_of}
use Rattle.row_parts.specs.Numbered.{Numbered, operands_in, all_operands, filled_in, token_in, path_in}
use Rattle.typing_model.specs.Demands.{Condition, same}
use Rattle.typing_model.specs.Contexts.{Context, type_at, unresolved}
use Rattle.typing_model.specs.Parts.{TypeExpression}
use Rattle.typing_model.specs.TypeExpressions.{type_row, tvar, types_of_nodes, constructor_asks, nodes_of, read_all, in_parentheses}
use Rattle.operand_laws.specs.Operands.{number_of, parts_of, type_of, path_of}
use Rattle.operand_laws.specs.Formed.{row_of}

-- a row of the item i as a type expression
abbrev pub row_type : (i n : ℕ) → Place → Tree → TypeExpression
row_type i n at t = type_row (row_of t) (number_of i n) at (parts_of i n t)

-- operands as type expressions
abbrev pub types_read : ℕ → List Numbered → List TypeExpression
types_read i os = map (type_of i) os

-- the nodes of the parts of a row that its own type is over; in front of a constructor those of several types in parentheses
abbrev pub front_nodes : Row → (i n : ℕ) → Tree → List ℕ
front_nodes tparen_row i n t = nodes_of (types_read i (operands_in n t 1))
front_nodes tapp_row i n t = (type_of i (filled_in n t 0)).grouped
front_nodes ttuple_row i n t = nodes_of (types_read i (all_operands n t))
front_nodes tarrow_row i n t = nodes_of (types_read i (all_operands n t))
front_nodes _ i n t = []

-- what these parts ask
abbrev pub front_asks : Row → (i n : ℕ) → Tree → Context → List Condition
front_asks tparen_row i n t c = read_all c (types_read i (operands_in n t 1))
front_asks tapp_row i n t c = (type_of i (filled_in n t 0)).grouped_read c
front_asks ttuple_row i n t c = read_all c (types_read i (all_operands n t))
front_asks tarrow_row i n t c = read_all c (types_read i (all_operands n t))
front_asks _ i n t c = []

-- what the row asks behind them
abbrev pub end_asks : Row → (i n : ℕ) → Place → Tree → Context → List Condition
end_asks tvar_row i n at t c = (tvar (number_of i n) at (token_in t 0)).read c
end_asks tcon_row i n at t c = constructor_asks c (number_of i n) (path_of (path_in t 0 1)) []
end_asks tparen_row i n at t c = in_parentheses c (number_of i n) at (types_read i (operands_in n t 1))
end_asks tapp_row i n at t c = constructor_asks c (number_of i n) (path_of (path_in t 1 2)) (type_of i (filled_in n t 0)).grouped
end_asks ttuple_row i n at t c = same (type_at c (number_of i n)) (Tuple (types_of (types_of_nodes c (nodes_of (types_read i (all_operands n t)))))) ∷ []
end_asks tarrow_row i n at t c = same (type_at c (number_of i n)) (Arrow (type_at c (type_of i (filled_in n t 0)).node) (type_at c (type_of i (filled_in n t 2)).node)) ∷ []
end_asks _ i n at t c = unresolved c (number_of i n)
