-- The loops over the operands of a group, one operand after another.
use Rattle.std.proofs.Common.{◌≡◌, ◌∙◌, ◌++◌, ◌+◌, ◌<◌, ℕ, zero, suc, List, [], ◌∷◌, length, map, drop, sym, ap, subst, arith, append_assoc, append-nil}
use Rattle.std.specs.Prelude.{All, slice_index_or}
use Rattle.std.proofs.lemmas.List.{drop_more}
use Rattle.std.proofs.lemmas.List.Elements.{All-head, All-tail}
use Rattle.signature_model.specs.Declarations.{Name}
use Rattle.row_parts.specs.declared.slots.Operand.{Operand}
use Rattle.row_parts.specs.Numbered.{operand_view}
use Rattle.env_table.specs.declared.entries.Entry.{Entry}
use Rattle.typing_state.specs.declared.parts.Parts.{Parts}
use Rattle.typing_state.specs.Goes.{Goes}
use Rattle.binding_rows.specs.Groups.{TypedBinding, OpenedBinding, TypesTurnIf, OpensIf}
use Rattle.binding_rows.specs.Carried.{IsBinding, NumberedNode, node_there, nodes_there}
use Rattle.binding_rows.specs.Operands.{binding_of, bindings_left, TypesTurnOperand, TypesInTurn, TypesInTurnFirst, OpensOperand, OpensOperands, OpensOperandsFirst}
use Rattle.binding_rows.proofs.Turns.{turns_none, turns_further, turns_all}
use Rattle.binding_rows.proofs.Together.{opens_none, opens_further, opens_all}

-- what is left of a list
pub cut_at : (os : List Operand) (k : ℕ) (x : Operand) → k < length os → x ≡ slice_index_or os k x → drop k os ≡ x ∷ drop (k + 1) os
cut_at os k x lt e = drop_more os k x lt ∙ ap (λ y. y ∷ drop (k + 1) os) (sym e)

-- an operand that is read from a list of bindings
read_binding : (os : List Operand) (k : ℕ) (x : Operand) → k < length os → x ≡ slice_index_or os k x → All IsBinding (map operand_view os) → IsBinding (operand_view x)
read_binding [] k x lt e all = absurd (omega arith)
read_binding (o ∷ os) zero x lt e all = subst (λ z. IsBinding (operand_view z)) (sym e) (All-head IsBinding (operand_view o) (map operand_view os) all)
read_binding (o ∷ os) (suc k) x lt e all = read_binding os k x (omega arith) e (All-tail IsBinding (operand_view o) (map operand_view os) all)

-- no operand without `rec` yet
pub turns_start : (a : Parts) (env : List Entry) (os : List Operand) (now : List Name) (ys : List TypedBinding) → now ≡ [] → ys ≡ [] → TypesInTurnFirst a a env os os now ys
turns_start a env os now ys unseen none = λ all. turns_none a env (bindings_left a.item os) now ys unseen none

-- one operand more
pub turns_step : (a b d : Parts) (env : List Entry) (os : List Operand) (k : ℕ) (x : Operand) (now then : List Name) (ys zs : List TypedBinding) → k < length os → x ≡ slice_index_or os k x → Goes a b → TypesInTurnFirst a b env os (drop k os) now ys →
    TypesTurnOperand b d env (operand_view x) now then ys zs → TypesInTurnFirst a d env os (drop (k + 1) os) then zs
turns_step a b d env os k x now then ys zs lt is goes first one = λ all.
    turns_further a b d env (bindings_left a.item os) (bindings_left a.item (drop k os)) (bindings_left a.item (drop (k + 1) os)) (binding_of a.item (operand_view x)) now then ys zs (ap (bindings_left a.item) (cut_at os k x lt is)) goes (first all)
    (subst (λ i. TypesTurnIf b d env now then ys zs (binding_of i (operand_view x))) goes.item (one (read_binding os k x lt is all)))

-- all operands
pub turns_end : (a b : Parts) (env : List Entry) (os left : List Operand) (now : List Name) (ys : List TypedBinding) → left ≡ [] → TypesInTurnFirst a b env os left now ys → TypesInTurn a b env (map operand_view os) ys
turns_end a b env os left now ys none first = λ all. turns_all a b env (bindings_left a.item os) (bindings_left a.item left) now ys (ap (bindings_left a.item) none) (first all)

-- no operand with `rec` yet
pub opens_start : (a : Parts) (env : List Entry) (os : List Operand) (now : List Name) (ys : List OpenedBinding) → now ≡ [] → ys ≡ [] → OpensOperandsFirst a a env os os now ys
opens_start a env os now ys unseen none = λ all. opens_none a env (bindings_left a.item os) now ys unseen none

-- one operand more
pub opens_step : (a b d : Parts) (env : List Entry) (os : List Operand) (k : ℕ) (x : Operand) (now then : List Name) (ys zs : List OpenedBinding) → k < length os → x ≡ slice_index_or os k x → Goes a b → OpensOperandsFirst a b env os (drop k os) now ys →
    OpensOperand b d env (operand_view x) now then ys zs → OpensOperandsFirst a d env os (drop (k + 1) os) then zs
opens_step a b d env os k x now then ys zs lt is goes first one = λ all.
    opens_further a b d env (bindings_left a.item os) (bindings_left a.item (drop k os)) (bindings_left a.item (drop (k + 1) os)) (binding_of a.item (operand_view x)) now then ys zs (ap (bindings_left a.item) (cut_at os k x lt is)) goes (first all)
    (subst (λ i. OpensIf b d env now then ys zs (binding_of i (operand_view x))) goes.item (one (read_binding os k x lt is all)))

-- all operands
pub opens_end : (a b : Parts) (env : List Entry) (os left : List Operand) (now : List Name) (ys : List OpenedBinding) → left ≡ [] → OpensOperandsFirst a b env os left now ys → OpensOperands a b env (map operand_view os) ys
opens_end a b env os left now ys none first = λ all. opens_all a b env (bindings_left a.item os) (bindings_left a.item left) now ys (ap (bindings_left a.item) none) (first all)

-- the nodes of one operand more are kept: those so far and those that are left are all of them
pub nodes_step : (os : List Operand) (k : ℕ) (x : Operand) (xs zs : List NumberedNode) → k < length os → x ≡ slice_index_or os k x → zs ≡ xs ++ node_there (operand_view x).number (operand_view x).part →
    xs ++ nodes_there (map operand_view (drop k os)) ≡ nodes_there (map operand_view os) → zs ++ nodes_there (map operand_view (drop (k + 1) os)) ≡ nodes_there (map operand_view os)
nodes_step os k x xs zs lt is grown so =
    let rest = nodes_there (map operand_view (drop (k + 1) os)) in
    ap (λ us. us ++ rest) grown ∙ append_assoc xs (node_there (operand_view x).number (operand_view x).part) rest ∙ ap (λ us. xs ++ nodes_there (map operand_view us)) (sym (cut_at os k x lt is)) ∙ so

-- those of all operands
pub nodes_end : (os left : List Operand) (xs : List NumberedNode) → left ≡ [] → xs ++ nodes_there (map operand_view left) ≡ nodes_there (map operand_view os) → xs ≡ nodes_there (map operand_view os)
nodes_end os left xs none so = sym (append-nil xs) ∙ ap (λ us. xs ++ nodes_there (map operand_view us)) (sym none) ∙ so
