-- An application is the definition's own term over its operands: so a row is read, from the lemmas of `Sorts` alone.
use Rattle.std.proofs.Common.{◌≡◌, ◌∙◌, ℕ, true, map, refl, sym, subst}
use Rattle.tree_model.specs.Rows.{eapp_row}
use Rattle.tree_model.specs.Slots.{is_operand}
use Rattle.tree_model.specs.Trees.{Place, Tree, inner}
use Rattle.row_parts.specs.Numbered.{numbered, operands_in, filled_in}
use Rattle.typing_model.specs.Meanings.{recorded_expression}
use Rattle.typing_model.specs.Expressions.{expression_row, application}
use Rattle.operand_laws.specs.Formed.{row_of, is_needed, IsFormed}
use Rattle.operand_laws.specs.Operands.{number_of, expression_of}
use Rattle.operand_laws.proofs.Sorts.{expression_stands, expressions_stand, expression_by_row}

-- e e e
pub application_stands : (i n : ℕ) (at : Place) (t : Tree) → row_of t ≡ eapp_row → IsFormed n t →
    expression_of i (numbered n at (inner t)) ≡ recorded_expression (number_of i n) (application (number_of i n) at (expression_of i (filled_in n t 0)) (map (expression_of i) (operands_in n t 1)))
unfolding expression_row is_operand is_needed
application_stands i n at t row formed =
    let head = expression_stands i n t 0 formed (subst (λ r. is_operand r 0 ≡ true) (sym row) refl) (subst (λ r. is_needed r 0 ≡ true) (sym row) refl) in
    let given = expressions_stand i n t 1 formed (subst (λ r. is_operand r 1 ≡ true) (sym row) refl) in
    expression_by_row i n at t ∙ rw (row, head, given) refl
