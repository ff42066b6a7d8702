-- Bindings by the operands of the code.
use Rattle.std.proofs.Common.{◌≡◌, ◌∙◌, ◌++◌, ℕ, true, List, [], ◌∷◌, Some, refl, sym, ap}
use Rattle.std.specs.List.{cons_option}
use Rattle.std.specs.Prelude.{All}
use Rattle.std.specs.Option.{IfSome}
use Rattle.std.proofs.lemmas.List.Elements.{All-nil, All-cons, All-head, All-tail}
use Rattle.tree_model.specs.Rows.{binding_row, elet_row}
use Rattle.tree_model.specs.Slots.{is_operand}
use Rattle.tree_model.specs.Trees.{Place, Tree, Part, node, taken, inner, missing}
use Rattle.row_parts.specs.Numbered.{Numbered, numbered, first_of, operands_in, first_in, filled_in, token_in}
use Rattle.typing_model.specs.Parts as parts
use Rattle.typing_model.specs.Expressions.{expression_row, let_expression, bindings_in, is_some}
use Rattle.typing_model.specs.Meanings as meanings
use Rattle.operand_laws.specs.Formed.{row_of, is_needed, IsFormed}
use Rattle.operand_laws.specs.Operands.{number_of, parts_of, expression_of}
use Rattle.operand_laws.proofs.Sorts.{pattern_stands, patterns_stand, first_type_stands, chosen_stand}
use Rattle.operand_laws.proofs.Tokens.{token_stands}
use Rattle.typing_rows.specs.Asked.{row_expression}
use Rattle.typing_rows.proofs.Terms.{one, as_row}
use Rattle.typing_rows.specs.Operands.{IsTypeOperand}
use Rattle.typing_rows.proofs.Placed.{slot_operands}
use Rattle.binding_rows.specs.Carried.{IsBindingPart, IsBinding, NumberedNode, IsNumberedBinding, node_there, nodes_there}
use Rattle.binding_rows.specs.Operands.{binding_of, bindings_of, binding_over, bindings_over}

-- a node as a binding, by its row
binding_by_row : (i n : ℕ) (at : Place) (t : Tree) → binding_of i (numbered n at (inner t)) ≡ meanings.binding_of (row_of t) (number_of i n) (parts_of i n t)
binding_by_row i n at (node r x ps) = refl

-- p p : t = e
pub binding_term : (i n : ℕ) (at : Place) (t : Tree) → IsFormed n t → row_of t ≡ binding_row → binding_of i (numbered n at (inner t)) ≡ Some (binding_over i n t)
unfolding is_operand is_needed
binding_term i n at t formed row =
    binding_by_row i n at t ∙ ap (λ r. meanings.binding_of r (number_of i n) (parts_of i n t)) row ∙
    (λ k. Some (record {
      node = number_of i n;
      pattern = pattern_stands i n t 0 formed (ap (λ q. is_operand q 0) row) (ap (λ q. is_needed q 0) row) k;
      parameters = patterns_stand i n t 1 formed (ap (λ q. is_operand q 1) row) k;
      annotation = first_type_stands i n t 3 formed (ap (λ q. is_operand q 3) row) k;
      body = one i n t formed binding_row 5 row refl refl k;
    }))

-- the first of operands that are type expressions
first_is_type : (os : List Numbered) → All IsTypeOperand os → IfSome (first_of os) IsTypeOperand
first_is_type [] all = tt
first_is_type (o ∷ os) all = All-head IsTypeOperand o os all

-- the type that may be written in a binding
pub written_is_type : (n : ℕ) (t : Tree) → IsFormed n t → IfSome (first_in n t 3) IsTypeOperand
written_is_type n t formed = first_is_type (operands_in n t 3) (slot_operands n t 3 formed)

-- the bindings of a row, which stand in slot 2
pub bindings_stand : (i n : ℕ) (t : Tree) → IsFormed n t → is_operand (row_of t) 2 ≡ true → bindings_in 2 (parts_of i n t) ≡ bindings_of i (operands_in n t 2)
bindings_stand i n t formed takes = chosen_stand (λ c. c.binding) i n t 2 formed takes

-- whether it has `rec`
pub rec_stands : (i n : ℕ) (t : Tree) → is_some (parts.token_in 1 (parts_of i n t)) ≡ is_some (token_in t 1)
rec_stands i n t = ap is_some (token_stands i n t 1)

-- a node before others
node_is_binding : (n : ℕ) (p : Part) (xs : List NumberedNode) → IsBindingPart n p → All IsNumberedBinding xs → All IsNumberedBinding (node_there n p ++ xs)
node_is_binding n (taken t) xs h rest = rest
node_is_binding n (inner t) xs h rest = All-cons IsNumberedBinding (record { number = n; tree = t }) xs h rest
node_is_binding n (missing at) xs h rest = rest

-- the nodes of operands are bindings
pub nodes_are_bindings : (os : List Numbered) → All IsBinding os → All IsNumberedBinding (nodes_there os)
nodes_are_bindings [] all = All-nil IsNumberedBinding
nodes_are_bindings (o ∷ os) all = node_is_binding o.number o.part (nodes_there os) (All-head IsBinding o os all) (nodes_are_bindings os (All-tail IsBinding o os all))

-- a node before others is the binding of its operand
node_over : (i n : ℕ) (at : Place) (p : Part) (xs : List NumberedNode) (os : List Numbered) → IsBindingPart n p → bindings_over i xs ≡ bindings_of i os → bindings_over i (node_there n p ++ xs) ≡ bindings_of i (numbered n at p ∷ os)
node_over i n at (taken t) xs os h rest = rest
node_over i n at (inner t) xs os h rest = ap (λ bs. binding_over i n t ∷ bs) rest ∙ ap (λ x. cons_option x (bindings_of i os)) (sym (binding_term i n at t h.formed h.row))
node_over i n at (missing q) xs os h rest = rest

-- they are the bindings of the operands
pub nodes_over : (i : ℕ) (os : List Numbered) → All IsBinding os → bindings_over i (nodes_there os) ≡ bindings_of i os
nodes_over i [] all = refl
nodes_over i (o ∷ os) all = node_over i o.number o.at o.part (nodes_there os) os (All-head IsBinding o os all) (nodes_over i os (All-tail IsBinding o os all))

-- let p = e in e
pub let_term : (i n : ℕ) (at : Place) (t : Tree) → IsFormed n t → row_of t ≡ elet_row → row_expression i n at t ≡ let_expression (number_of i n) at (is_some (token_in t 1)) (bindings_of i (operands_in n t 2)) (expression_of i (filled_in n t 5))
unfolding expression_row is_operand is_needed
let_term i n at t formed row =
    as_row i n t formed at elet_row row ∙ ap (λ e. let_expression (number_of i n) at (is_some (parts.token_in 1 (parts_of i n t))) (bindings_in 2 (parts_of i n t)) e) (one i n t formed elet_row 5 row refl refl) ∙
    ap (λ r. let_expression (number_of i n) at r (bindings_in 2 (parts_of i n t)) (expression_of i (filled_in n t 5))) (rec_stands i n t) ∙
    ap (λ bs. let_expression (number_of i n) at (is_some (token_in t 1)) bs (expression_of i (filled_in n t 5))) (bindings_stand i n t formed (ap (λ q. is_operand q 2) row))
