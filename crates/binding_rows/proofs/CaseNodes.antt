-- The rows over cases and parameters in trees that are made of carried rows.
use Rattle.std.proofs.Common.{◌≡◌, ℕ, List, Option, Some, None, refl, ap}
use Rattle.std.specs.Prelude.{All}
use Rattle.std.specs.Option.{IfSome}
use Rattle.tree_model.specs.Rows.{Row, case_row, ematch_row, etry_row, efun_row, efunction_row}
use Rattle.tree_model.specs.Trees.{Place, Tree, Part, node, taken, inner, missing}
use Rattle.row_parts.specs.Numbered.{Numbered, numbered, operands_in, first_in}
use Rattle.operand_laws.specs.Formed.{row_of, IsFormed, IsPartFormed, IsOperandFormed}
use Rattle.operand_laws.proofs.Going.{operands_formed, first_operand_formed, filled_formed}
use Rattle.typing_rows.specs.CarriedRows.{an_expression, a_pattern, a_case, sort_in, IsCaseRow, IsTreeOfSort, IsOfSort, IsPlaced, IsCarried, IsCarriedCase}
use Rattle.typing_rows.proofs.Going.{expression_parts, case_parts, sorted_in, first_of_sort, filled_of_sort, filled_carried, first_placed, filled_placed, cases_carried}
use Rattle.binding_rows.specs.CaseCarried.{IsCaseNode, IsCasePart, IsCase, IsMatchRow, IsMatchOrTry, IsFunctionNode, IsFunNode}

by_case : (r : Row) → IsCaseRow r → r ≡ case_row
by_case case_row h = refl
by_case _ h = absurd h

case_there : (t : Tree) → IsTreeOfSort a_case t → row_of t ≡ case_row
case_there (node r x ps) h = by_case r h.0

both_some : (o : Option Numbered) → IfSome o IsOperandFormed → IfSome o IsPlaced → IfSome o (λ p. IsOfSort an_expression p.part) → IfSome o IsCarried
both_some None f p h = tt
both_some (Some o) f p h = record { formed = f; placed = p; rows = h }

-- a case that is made of carried rows
case_node : (n : ℕ) (t : Tree) → IsFormed n t → IsTreeOfSort a_case t → IsCaseNode n t
case_node n t formed h =
    let row = case_there t h in
    let parts = case_parts t h in
    record {
      formed = formed;
      row = row;
      pattern = record { formed = filled_formed n t 0 formed; rows = filled_of_sort n t 0 a_pattern (ap (λ r. sort_in r 0) row) parts };
      guard = both_some (first_in n t 2) (first_operand_formed n t 2 formed) (first_placed n t 2) (first_of_sort n t 2 an_expression (ap (λ r. sort_in r 2) row) parts);
      body = record { formed = filled_formed n t 4 formed; placed = filled_placed n t 4; rows = filled_of_sort n t 4 an_expression (ap (λ r. sort_in r 4) row) parts };
    }

case_part : (n : ℕ) (p : Part) → IsPartFormed n p → IsOfSort a_case p → IsCasePart n p
case_part n (taken t) f h = tt
case_part n (inner t) f h = case_node n t f h
case_part n (missing at) f h = tt

-- cases that are
pub all_cases : (os : List Numbered) → All IsCarriedCase os → All IsCase os
all_cases os all k d lt = let h = all k d lt in case_part _ _ h.formed h.rows

expression_first : (r : Row) → IsMatchRow r → sort_in r 1 ≡ an_expression
expression_first ematch_row h = refl
expression_first etry_row h = refl
expression_first _ h = absurd h

cases_later : (r : Row) → IsMatchRow r → sort_in r 4 ≡ a_case
cases_later ematch_row h = refl
cases_later etry_row h = refl
cases_later _ h = absurd h

-- `match` and `try`
pub match_node : (n : ℕ) (at : Place) (t : Tree) → IsMatchRow (row_of t) → IsCarried (numbered n at (inner t)) → IsMatchOrTry n t
match_node n at t row h = record {
  formed = h.formed;
  row = row;
  subject = filled_carried n at t 1 (expression_first (row_of t) row) h;
  cases = all_cases (operands_in n t 4) (cases_carried n at t 4 (cases_later (row_of t) row) h);
}

-- `function`
pub function_node : (n : ℕ) (at : Place) (t : Tree) → row_of t ≡ efunction_row → IsCarried (numbered n at (inner t)) → IsFunctionNode n t
function_node n at t row h = record { formed = h.formed; row = row; cases = all_cases (operands_in n t 4) (cases_carried n at t 4 (ap (λ r. sort_in r 4) row) h) }

-- `fun`
pub fun_node : (n : ℕ) (at : Place) (t : Tree) → row_of t ≡ efun_row → IsCarried (numbered n at (inner t)) → IsFunNode n t
fun_node n at t row h = record {
  formed = h.formed;
  row = row;
  parameters = λ k d lt. record { formed = operands_formed n t 1 h.formed k d lt; rows = sorted_in n t 1 a_pattern (ap (λ r. sort_in r 1) row) (expression_parts t h.rows) k d lt };
  body = filled_carried n at t 3 (ap (λ r. sort_in r 3) row) h;
}
