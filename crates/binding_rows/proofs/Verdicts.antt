-- Whether the names of bindings are generalised, binding by binding.
use Rattle.std.proofs.Common.{◌≡◌, ◌∙◌, ◌++◌, ◌+◌, ◌<◌, ℕ, zero, suc, Bool, true, false, List, [], ◌∷◌, length, map, drop, Option, Some, None, refl, sym, ap, subst, arith, append_assoc, append-nil}
use Rattle.std.specs.Prelude.{All, slice_index_or}
use Rattle.std.specs.Option.{option_to_list}
use Rattle.std.specs.List.{cons_option}
use Rattle.std.proofs.lemmas.List.Elements.{All-head, All-tail}
use denote.Ref.{Bor}
use Rattle.tree_model.specs.Trees.{Tree}
use Rattle.syntax_tree.specs.View.{place_of, node_view}
use Rattle.syntax_tree.specs.declared.tree.Node.{Node}
use Rattle.typing_model.specs.Contexts.{Context}
use Rattle.typing_model.specs.Parts.{Binding}
use Rattle.typing_model.specs.Bindings.{generalises}
use Rattle.typing_model.specs.Expressions.{is_some}
use Rattle.env_table.specs.declared.entries.Entry.{Entry}
use Rattle.row_parts.specs.declared.slots.Operand.{Operand}
use Rattle.row_parts.specs.Numbered.{Numbered, numbered, operand_view, part_of, operands_in, first_of, first_in, filled_in}
use Rattle.operand_laws.specs.Operands.{expression_of}
use Rattle.typing_rows.specs.CarriedRows.{IsCarried}
use Rattle.binding_rows.specs.Carried.{IsBindingNode, IsBinding, NumberedNode, IsNumberedBinding, nodes_there}
use Rattle.binding_rows.specs.Operands.{binding_of, binding_by, binding_over, bindings_over, bindings_left}
use Rattle.binding_rows.specs.Decided.{FindsValue, verdicts, JudgesNode, JudgesOperand, JudgesOperands, JudgesOperandsFirst, JudgesNodes, JudgesNodesFirst, JudgesGroup}
use Rattle.binding_rows.proofs.Terms.{binding_term, nodes_are_bindings, nodes_over}
use Rattle.binding_rows.proofs.Loops.{cut_at}
use Rattle.binding_rows.proofs.Operands.{view_there}

-- a binding with parameters is generalised
pub judged_with : (env : List Entry) (n : ℕ) (t : Tree) → is_some (first_in n t 1) ≡ true → JudgesNode env n t true
judged_with env n t some node i c among = by (operands_in n t 1) some
  where
    by : (os : List Numbered) → is_some (first_of os) ≡ true → generalises c (binding_by i n (filled_in n t 0) os (first_in n t 3) (filled_in n t 5)) ≡ true
    by [] e = absurd (cc)
    by (o ∷ os) e = refl

-- one without them is where its right side is non-expansive
pub judged_without : (env : List Entry) (n : ℕ) (t : Tree) (o : Numbered) (found : Bool) → is_some (first_in n t 1) ≡ false → o ≡ filled_in n t 5 → FindsValue env o found → JudgesNode env n t found
judged_without env n t o found none here value node i c among =
    by (operands_in n t 1) none ∙ ap (λ q. (expression_of i q).is_value c) (sym here) ∙ value (subst IsCarried (sym here) node.body) i c among
  where
    by : (os : List Numbered) → is_some (first_of os) ≡ false → generalises c (binding_by i n (filled_in n t 0) os (first_in n t 3) (filled_in n t 5)) ≡ (expression_of i (filled_in n t 5)).is_value c
    by [] e = refl
    by (o ∷ os) e = absurd (cc)

-- one that is missing
pub judged_missing : (env : List Entry) (o : Operand) (found : List Bool) → o.node ≡ None → JudgesOperand env (operand_view o) found found
judged_missing env o found none carried i c among =
    sym (append-nil found) ∙ ap (λ (m : Option (Bor Node)). found ++ verdicts c (option_to_list (binding_of i (numbered o.number (place_of o.span) (part_of m o.span))))) (sym none)

-- one that is there
pub judged_there : (env : List Entry) (o : Operand) (nd : Bor Node) (before now : List Bool) (found : Bool) → o.node ≡ Some nd → now ≡ before ++ found ∷ [] → JudgesNode env o.number (node_view nd.now) found → JudgesOperand env (operand_view o) before now
judged_there env o nd before now found there grown judged carried i c among =
    let t = node_view nd.now in
    let here : IsBindingNode o.number t = subst IsBinding (sym (view_there o nd there)) carried in
    grown ∙ ap (λ b. before ++ b ∷ []) (sym (judged here i c among)) ∙
    ap (λ x. before ++ verdicts c (option_to_list x)) (sym (ap (binding_of i) (sym (view_there o nd there)) ∙ binding_term i o.number (place_of o.span) t here.formed here.row))

-- an operand that is read from a list
read_from : (P : Numbered → Type 0) (os : List Operand) (k : ℕ) (x : Operand) → k < length os → x ≡ slice_index_or os k x → All P (map operand_view os) → P (operand_view x)
read_from P [] k x lt e all = absurd (omega arith)
read_from P (o ∷ os) zero x lt e all = subst (λ z. P (operand_view z)) (sym e) (All-head P (operand_view o) (map operand_view os) all)
read_from P (o ∷ os) (suc k) x lt e all = read_from P os k x (omega arith) e (All-tail P (operand_view o) (map operand_view os) all)

-- the verdict of an operand before others
one_before : (c : Context) (o : Option Binding) (xs : List Binding) → verdicts c (cons_option o xs) ≡ verdicts c (option_to_list o) ++ verdicts c xs
one_before c None xs = refl
one_before c (Some x) xs = refl

-- no verdict yet
pub judges_start : (env : List Entry) (os : List Operand) (found : List Bool) → found ≡ [] → JudgesOperandsFirst env os os found
judges_start env os found none carried i c among = ap (λ bs. bs ++ verdicts c (bindings_left i os)) none

-- one operand more
pub judges_step : (env : List Entry) (os : List Operand) (k : ℕ) (x : Operand) (before now : List Bool) → k < length os → x ≡ slice_index_or os k x → JudgesOperandsFirst env os (drop k os) before → JudgesOperand env (operand_view x) before now → JudgesOperandsFirst env os (drop (k + 1) os) now
judges_step env os k x before now lt is first one carried i c among =
    let rest = bindings_left i (drop (k + 1) os) in
    let here = option_to_list (binding_of i (operand_view x)) in
    ap (λ bs. bs ++ verdicts c rest) (one (read_from IsBinding os k x lt is carried) i c among) ∙ append_assoc before (verdicts c here) (verdicts c rest) ∙
    ap (λ bs. before ++ bs) (sym (one_before c (binding_of i (operand_view x)) rest)) ∙ ap (λ qs. before ++ verdicts c (bindings_left i qs)) (sym (cut_at os k x lt is)) ∙ first carried i c among

-- all operands
pub judges_end : (env : List Entry) (os left : List Operand) (found : List Bool) → left ≡ [] → JudgesOperandsFirst env os left found → JudgesOperands env (map operand_view os) found
judges_end env os left found none first carried i c among = sym (append-nil found) ∙ ap (λ qs. found ++ verdicts c (bindings_left i qs)) (sym none) ∙ first carried i c among

-- no node yet
pub nodes_judged_start : (env : List Entry) (xs : List NumberedNode) (found : List Bool) → found ≡ [] → All IsNumberedBinding xs → JudgesNodesFirst env xs xs found
nodes_judged_start env xs found none are = record { are = are; found_so_far = λ i c among. ap (λ bs. bs ++ verdicts c (bindings_over i xs)) none }

-- one node more
pub nodes_judged_step : (env : List Entry) (all left rest : List NumberedNode) (x : NumberedNode) (before now : List Bool) (found : Bool) → left ≡ x ∷ rest → now ≡ before ++ found ∷ [] → JudgesNodesFirst env all left before → JudgesNode env x.number x.tree found → JudgesNodesFirst env all rest now
nodes_judged_step env all left rest x before now found split grown first judged =
    let are = subst (All IsNumberedBinding) split first.are in
    record {
      are = All-tail IsNumberedBinding x rest are;
      found_so_far = λ i c among.
          ap (λ bs. bs ++ verdicts c (bindings_over i rest)) (grown ∙ ap (λ b. before ++ b ∷ []) (sym (judged (All-head IsNumberedBinding x rest are) i c among))) ∙
          append_assoc before (generalises c (binding_over i x.number x.tree) ∷ []) (verdicts c (bindings_over i rest)) ∙ ap (λ qs. before ++ verdicts c (bindings_over i qs)) (sym split) ∙ first.found_so_far i c among;
    }

-- all nodes
pub nodes_judged_end : (env : List Entry) (all left : List NumberedNode) (found : List Bool) → left ≡ [] → (All IsNumberedBinding all → JudgesNodesFirst env all left found) → JudgesNodes env all found
nodes_judged_end env all left found none first are i c among = sym (append-nil found) ∙ ap (λ qs. found ++ verdicts c (bindings_over i qs)) (sym none) ∙ (first are).found_so_far i c among

-- the verdicts of operands, by those of their nodes
pub judged_by_nodes : (env : List Entry) (os : List Numbered) (xs : List NumberedNode) (found : List Bool) → xs ≡ nodes_there os → JudgesNodes env xs found → JudgesOperands env os found
judged_by_nodes env os xs found same judged carried i c among =
    judged (subst (All IsNumberedBinding) (sym same) (nodes_are_bindings os carried)) i c among ∙ ap (λ ys. verdicts c (bindings_over i ys)) same ∙ ap (verdicts c) (nodes_over i os carried)

-- those of a row
pub judged_group : (env : List Entry) (n : ℕ) (t : Tree) (os : List Numbered) (found : List Bool) → os ≡ operands_in n t 2 → JudgesOperands env os found → JudgesGroup env n t found
judged_group env n t os found same judged = subst (λ qs. JudgesOperands env qs found) same judged
