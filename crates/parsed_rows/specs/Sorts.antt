-- The sorts of parts by the numbers that the grammar's table has for them.
use Rattle.std.specs.Prelude.{ℕ}
use Rattle.grammar_model.specs.Words.{expression, pattern, type_expression, binding, case, field, field_pattern}
use Rattle.typing_rows.specs.CarriedRows.{Sort, an_expression, a_pattern, a_type, a_field_pattern, a_field, a_case, a_binding}

-- the number of a sort in the table
abbrev pub sort_number : Sort → ℕ
sort_number an_expression = expression
sort_number a_pattern = pattern
sort_number a_type = type_expression
sort_number a_field_pattern = field_pattern
sort_number a_field = field
sort_number a_case = case
sort_number a_binding = binding
