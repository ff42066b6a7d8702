-- The fields of a record, and of a record pattern, that is well formed and made of carried rows are fields of carried expressions, and of carried patterns.
use Rattle.std.proofs.Common.{◌≡◌, ℕ, Option, Some, None, refl, ap}
use Rattle.std.specs.Prelude.{All}
use Rattle.std.specs.Option.{IfSome}
use Rattle.tree_model.specs.Rows.{Row, precord_row, qfield_row, erecord_row, ffield_row}
use Rattle.tree_model.specs.Trees.{Place, Part, Tree, node, taken, inner, missing}
use Rattle.row_parts.specs.Numbered.{Numbered, numbered, first_in, operands_in}
use Rattle.operand_laws.specs.Formed.{row_of, IsFormed, IsPartFormed, IsOperandFormed}
use Rattle.operand_laws.proofs.Going.{operands_formed, first_operand_formed}
use Rattle.typing_rows.specs.CarriedRows.{sort_in, an_expression, a_pattern, a_field_pattern, a_field, IsFieldPatternRow, IsFieldRow, IsTreeOfSort, IsOfSort, IsPlaced, IsCarried}
use Rattle.typing_rows.proofs.Going.{expression_parts, pattern_parts, field_parts, value_parts, sorted_in, first_of_sort, first_placed, filled_carried}
use Rattle.pattern_rows.specs.CarriedPatterns.{IsCarriedPattern}
use Rattle.record_rows.specs.Operands.{IsFieldNode, IsCarriedFieldPart, IsCarriedField}
use Rattle.record_rows.specs.ValueOperands.{IsValueNode, IsCarriedValuePart}
use Rattle.record_rows.specs.RecordExpressions.{IsRecordNode}

by_field : (r : Row) → IsFieldPatternRow r → r ≡ qfield_row
by_field qfield_row h = refl
by_field _ h = absurd h

field_row_there : (t : Tree) → IsTreeOfSort a_field_pattern t → row_of t ≡ qfield_row
field_row_there (node r x ps) h = by_field r h.0

both_some : (o : Option Numbered) → IfSome o IsOperandFormed → IfSome o (λ p. IsOfSort a_pattern p.part) → IfSome o IsCarriedPattern
both_some None f h = tt
both_some (Some o) f h = record { formed = f; rows = h }

-- a field that is made of carried rows
field_node : (n : ℕ) (t : Tree) → IsFormed n t → IsTreeOfSort a_field_pattern t → IsFieldNode n t
field_node n t formed h =
    let row = field_row_there t h in
    record { formed = formed; row = row; pattern = both_some (first_in n t 3) (first_operand_formed n t 3 formed) (first_of_sort n t 3 a_pattern (ap (λ r. sort_in r 3) row) (field_parts t h)) }

field_part : (n : ℕ) (p : Part) → IsPartFormed n p → IsOfSort a_field_pattern p → IsCarriedFieldPart n p
field_part n (taken t) f h = tt
field_part n (inner t) f h = field_node n t f h
field_part n (missing at) f h = tt

-- the fields of a record pattern
pub record_fields : (n : ℕ) (at : Place) (t : Tree) → row_of t ≡ precord_row → IsCarriedPattern (numbered n at (inner t)) → All IsCarriedField (operands_in n t 1)
record_fields n at t row h k d lt = field_part _ _ (operands_formed n t 1 h.formed k d lt) (sorted_in n t 1 a_field_pattern (ap (λ r. sort_in r 1) row) (pattern_parts t h.rows) k d lt)

by_value : (r : Row) → IsFieldRow r → r ≡ ffield_row
by_value ffield_row h = refl
by_value _ h = absurd h

value_row_there : (t : Tree) → IsTreeOfSort a_field t → row_of t ≡ ffield_row
value_row_there (node r x ps) h = by_value r h.0

all_some : (o : Option Numbered) → IfSome o IsOperandFormed → IfSome o IsPlaced → IfSome o (λ p. IsOfSort an_expression p.part) → IfSome o IsCarried
all_some None f p h = tt
all_some (Some o) f p h = record { formed = f; placed = p; rows = h }

-- a field of a record that is made of carried rows
value_node : (n : ℕ) (t : Tree) → IsFormed n t → IsTreeOfSort a_field t → IsValueNode n t
value_node n t formed h =
    let row = value_row_there t h in
    record { formed = formed; row = row; value = all_some (first_in n t 3) (first_operand_formed n t 3 formed) (first_placed n t 3) (first_of_sort n t 3 an_expression (ap (λ r. sort_in r 3) row) (value_parts t h)) }

value_part : (n : ℕ) (p : Part) → IsPartFormed n p → IsOfSort a_field p → IsCarriedValuePart n p
value_part n (taken t) f h = tt
value_part n (inner t) f h = value_node n t f h
value_part n (missing at) f h = tt

-- { l = e }, { e with l = e }
pub record_node : (n : ℕ) (at : Place) (t : Tree) → row_of t ≡ erecord_row → IsCarried (numbered n at (inner t)) → IsRecordNode n t
record_node n at t row h = record {
  formed = h.formed;
  row = row;
  first = filled_carried n at t 1 (ap (λ r. sort_in r 1) row) h;
  value = all_some (first_in n t 3) (first_operand_formed n t 3 h.formed) (first_placed n t 3) (first_of_sort n t 3 an_expression (ap (λ r. sort_in r 3) row) (expression_parts t h.rows));
  fields = λ k d lt. value_part _ _ (operands_formed n t 5 h.formed k d lt) (sorted_in n t 5 a_field (ap (λ r. sort_in r 5) row) (expression_parts t h.rows) k d lt);
}
