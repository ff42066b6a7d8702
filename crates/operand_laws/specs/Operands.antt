-- What the operands of an item mean in the definitions of typings.
use Rattle.std.specs.Prelude.{ℕ, ◌+◌, List}
use Rattle.tree_model.specs.Trees.{Place, Tree, Part, node, taken, inner, missing}
use Rattle.row_parts.specs.Numbered.{Numbered}
use Rattle.row_parts.specs.Numbered as parts
use Rattle.typing_model.specs.Parts.{Written, Expression, Pattern, TypeExpression, Child, no_expression_at, no_pattern_at, no_type_at}
use Rattle.typing_model.specs.Meanings.{item_base, children_of, child_of, recorded_expression, recorded_pattern, recorded_type}
use Rattle.typing_model.specs.Expressions.{expression_row}
use Rattle.typing_model.specs.Patterns.{pattern_row}
use Rattle.typing_model.specs.TypeExpressions.{type_row}

-- the number of a node among those of all items, by its item and its number in it
abbrev pub number_of : ℕ → ℕ → ℕ
number_of i n = item_base i + n

-- the parts of a node that has this number in an item, as the definitions take them
abbrev pub parts_of : ℕ → ℕ → Tree → List Child
parts_of i n (node r x ps) = children_of (number_of i n + 1) r ps

-- an operand of an item in a slot, as a part of its row
abbrev pub child_at : ℕ → ℕ → Numbered → Child
child_at i s o = child_of (number_of i o.number) s o.part

-- what is at a place, as an expression with this number
abbrev pub part_expression : ℕ → Place → Part → Expression
part_expression n at (taken t) = recorded_expression n (no_expression_at n at)
part_expression n at (inner (node r x ps)) = recorded_expression n (expression_row r n at (children_of (n + 1) r ps))
part_expression n at (missing q) = recorded_expression n (no_expression_at n at)

-- the same as a pattern
abbrev pub part_pattern : ℕ → Place → Part → Pattern
part_pattern n at (taken t) = recorded_pattern n (no_pattern_at n at)
part_pattern n at (inner (node r x ps)) = recorded_pattern n (pattern_row r n at (children_of (n + 1) r ps))
part_pattern n at (missing q) = recorded_pattern n (no_pattern_at n at)

-- the same as a type expression
abbrev pub part_type : ℕ → Place → Part → TypeExpression
part_type n at (taken t) = recorded_type n (no_type_at n at)
part_type n at (inner (node r x ps)) = recorded_type n (type_row r n at (children_of (n + 1) r ps))
part_type n at (missing q) = recorded_type n (no_type_at n at)

-- an operand of an item, as an expression
abbrev pub expression_of : ℕ → Numbered → Expression
expression_of i o = part_expression (number_of i o.number) o.at o.part

-- the same as a pattern
abbrev pub pattern_of : ℕ → Numbered → Pattern
pattern_of i o = part_pattern (number_of i o.number) o.at o.part

-- the same as a type expression
abbrev pub type_of : ℕ → Numbered → TypeExpression
type_of i o = part_type (number_of i o.number) o.at o.part

-- a path as the definitions take it
abbrev pub path_of : parts.Written → Written
path_of p = record { qualifiers = p.qualifiers; last = p.last }
