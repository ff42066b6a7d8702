-- The typed rows and the slots of expressions are those of the grammar's table.
use Rattle.std.proofs.Common.{◌≡◌, ℕ, Bool, true, false, not, ◌&&◌, ◌||◌, refl, if◌then◌else◌}
use Rattle.std.specs.Prelude.{nat_eq, slice_get}
use Rattle.tree_model.specs.Rows as names
use Rattle.grammar_model.specs.Named.{slot_of}
use Rattle.grammar_model.specs.Tables.{What, nothing, token, operand}
use Rattle.grammar_model.specs.Rows.{Row, or_else, is_left}
use Rattle.grammar_model.specs.Checks.{each, each_spot}
use Rattle.grammar_model.specs.Words.{row_names, expression, pattern}
use Rattle.grammar_model.specs.Ocaml.{rows}
use Rattle.query_model.specs.TypedNodes.{is_typed_row, is_expression_slot}

abbrev agree : Bool → Bool → Bool
agree a b = if a then b else not b

-- the name of a row
abbrev name_of : Row → names.Row
name_of w = or_else names.program_row (slice_get row_names w.name)

-- a row is typed where its sort is that of expressions or of patterns
abbrev row_fits : ℕ → Row → Bool
row_fits i w = agree (is_typed_row (name_of w)) (nat_eq w.sort expression || nat_eq w.sort pattern)

-- the slot of a spot takes an expression where the spot does
abbrev slot_fits : names.Row → ℕ → What → Bool
slot_fits r p nothing = true
slot_fits r p (token ks) = not (is_expression_slot r (slot_of p))
slot_fits r p (operand s n) = agree (is_expression_slot r (slot_of p)) (nat_eq s expression)

abbrev slots_fit : ℕ → Row → Bool
slots_fit i w = each_spot 0 w.spots (λ p s. slot_fits (name_of w) p s.what)

-- a left operand has the slot 0 and the sort of its row
abbrev left_fits : ℕ → Row → Bool
left_fits i w = if is_left w.left then agree (is_expression_slot (name_of w) 0) (nat_eq w.sort expression) else true

pub rows_fit : each 0 rows row_fits ≡ true
unfolding rows is_typed_row
rows_fit = refl

pub slots_of_rows_fit : each 0 rows slots_fit ≡ true
unfolding rows is_expression_slot
slots_of_rows_fit = refl

pub left_slots_fit : each 0 rows left_fits ≡ true
unfolding rows is_expression_slot
left_slots_fit = refl
