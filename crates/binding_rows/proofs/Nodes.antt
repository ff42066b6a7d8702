-- Bindings in trees that are made of carried rows.
use Rattle.std.proofs.Common.{◌≡◌, ℕ, List, refl, ap}
use Rattle.std.specs.Prelude.{All}
use Rattle.tree_model.specs.Rows.{Row, binding_row, elet_row}
use Rattle.tree_model.specs.Trees.{Place, Tree, Part, node, taken, inner, missing}
use Rattle.row_parts.specs.Numbered.{Numbered, numbered, operands_in}
use Rattle.operand_laws.specs.Formed.{row_of, IsFormed, IsPartFormed}
use Rattle.operand_laws.proofs.Going.{operands_formed, filled_formed}
use Rattle.typing_rows.specs.CarriedRows.{an_expression, a_pattern, a_binding, sort_in, IsBindingRow, IsTreeOfSort, IsOfSort, IsCarried, IsCarriedBinding}
use Rattle.typing_rows.proofs.Going.{binding_parts, sorted_in, filled_of_sort, filled_carried, filled_placed, bindings_carried}
use Rattle.binding_rows.specs.Carried.{IsBindingNode, IsBindingPart, IsBinding}
use Rattle.binding_rows.specs.Decided.{IsLetNode}

by_binding : (r : Row) → IsBindingRow r → r ≡ binding_row
by_binding binding_row h = refl
by_binding _ h = absurd h

binding_there : (t : Tree) → IsTreeOfSort a_binding t → row_of t ≡ binding_row
binding_there (node r x ps) h = by_binding r h.0

-- a binding that is made of carried rows
binding_node : (n : ℕ) (t : Tree) → IsFormed n t → IsTreeOfSort a_binding t → IsBindingNode n t
binding_node n t formed h =
    let row = binding_there t h in
    let parts = binding_parts t h in
    record {
      formed = formed;
      row = row;
      pattern = record { formed = filled_formed n t 0 formed; rows = filled_of_sort n t 0 a_pattern (ap (λ r. sort_in r 0) row) parts };
      parameters = λ k d lt. record { formed = operands_formed n t 1 formed k d lt; rows = sorted_in n t 1 a_pattern (ap (λ r. sort_in r 1) row) parts k d lt };
      body = record { formed = filled_formed n t 5 formed; placed = filled_placed n t 5; rows = filled_of_sort n t 5 an_expression (ap (λ r. sort_in r 5) row) parts };
    }

binding_part : (n : ℕ) (p : Part) → IsPartFormed n p → IsOfSort a_binding p → IsBindingPart n p
binding_part n (taken t) f h = tt
binding_part n (inner t) f h = binding_node n t f h
binding_part n (missing at) f h = tt

-- bindings that are
pub all_bindings : (os : List Numbered) → All IsCarriedBinding os → All IsBinding os
all_bindings os all k d lt = let h = all k d lt in binding_part _ _ h.formed h.rows

-- let p = e in e
pub let_node : (n : ℕ) (at : Place) (t : Tree) → row_of t ≡ elet_row → IsCarried (numbered n at (inner t)) → IsLetNode n t
let_node n at t row h =
    record {
      formed = h.formed;
      row = row;
      bindings = all_bindings (operands_in n t 2) (bindings_carried n at t 2 (ap (λ r. sort_in r 2) row) h);
      body = filled_carried n at t 5 (ap (λ r. sort_in r 5) row) h;
    }
