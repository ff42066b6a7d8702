-- What is carried of the operands of the code that are bindings, or stand in one.
use Rattle.std.specs.Prelude.{◌≡◌, ℕ, List, [], ◌++◌, map, filter_map, All, Option, option_map}
use Rattle.std.specs.Option.{IfSome}
use Rattle.tree_model.specs.Trees.{Tree}
use Rattle.signature_model.specs.Declarations.{Name}
use Rattle.typing_model.specs.Contexts.{tell}
use Rattle.typing_model.specs.Parts.{Binding}
use Rattle.typing_model.specs.Bindings.{right_side, bound_in_turn, bound_together}
use Rattle.typing_model.specs.Expressions.{is_some}
use Rattle.row_parts.specs.declared.slots.Operand.{Operand}
use Rattle.row_parts.specs.Numbered.{Numbered, operand_view, operands_in, first_in, filled_in, token_in}
use Rattle.env_table.specs.declared.entries.Entry.{Entry}
use Rattle.typing_state.specs.declared.parts.Parts.{Parts}
use Rattle.operand_laws.specs.Operands.{number_of, child_at, expression_of, pattern_of, type_of}
use Rattle.typing_rows.specs.CarriedRows.{IsCarried}
use Rattle.typing_rows.specs.Operands.{IsTypeOperand}
use Rattle.pattern_rows.specs.CarriedPatterns.{IsCarriedPattern}
use Rattle.pattern_rows.specs.Contracts.{patterns_of}
use Rattle.binding_rows.specs.Rights.{ReadsAnnotation, MakesWhole, TypesRightBody, TypesRightParts, TypesRight}
use Rattle.binding_rows.specs.Groups.{TypedBinding, OpenedBinding, AsksWhole, TypesBindings, TypesTurn, TypesTurnIf, TypesTurnsFirst, OpensIf, OpensAll, OpensFirst, ConcludesBinding, ConcludesAll, ConcludesFirst, TypesGroup}
use Rattle.binding_rows.specs.Carried.{IsBindingNode, IsBinding, NumberedNode, IsNumberedBinding}

-- an operand of an item as a binding, where it is one
abbrev pub binding_of : ℕ → Numbered → Option Binding
binding_of i o = (child_at i 2 o).binding

-- operands of an item as bindings; a missing one is none
abbrev pub bindings_of : ℕ → List Numbered → List Binding
bindings_of i os = filter_map (λ o. binding_of i o) os

-- a binding of an item, by its number and its operands
abbrev pub binding_by : ℕ → ℕ → (pattern : Numbered) → (parameters : List Numbered) → (annotation : Option Numbered) → (body : Numbered) → Binding
binding_by i n pattern parameters annotation body =
    record { node = number_of i n; pattern = pattern_of i pattern; parameters = patterns_of i parameters; annotation = option_map (λ o. type_of i o) annotation; body = expression_of i body }

-- a node of an item as a binding
abbrev pub binding_over : ℕ → ℕ → Tree → Binding
binding_over i n t = binding_by i n (filled_in n t 0) (operands_in n t 1) (first_in n t 3) (filled_in n t 5)

-- nodes of an item as bindings
abbrev pub bindings_over : ℕ → List NumberedNode → List Binding
bindings_over i xs = map (λ (x : NumberedNode). binding_over i x.number x.tree) xs

-- what is carried of an operand as a written type, which may be left out
abbrev pub ReadsAnnotationOf : (a b : Parts) → List Entry → Option Numbered → Option ℕ → Type 0
ReadsAnnotationOf a b env o m = IfSome o IsTypeOperand → ReadsAnnotation a b env (option_map (λ q. type_of a.item q) o) m

-- the type of a binding, by the operand of its body
abbrev pub MakesWholeOf : (a b : Parts) → List Entry → Numbered → (written : Option ℕ) → (ms : List ℕ) → (right m : ℕ) → Type 0
MakesWholeOf a b env o written ms right m = MakesWhole a b env (expression_of a.item o) written ms right m

-- the body of a right side
abbrev pub TypesRightBodyOf : (a b : Parts) → List Entry → Numbered → (written : Option ℕ) → (ms : List ℕ) → (right m : ℕ) → Type 0
TypesRightBodyOf a b env o written ms right m = IsCarried o → TypesRightBody a b env (expression_of a.item o) written ms right m

-- a right side by its operands
abbrev pub TypesRightOf : (a b : Parts) → List Entry → (parameters : List Numbered) → (annotation : Option Numbered) → (body : Numbered) → (right m : ℕ) → Type 0
TypesRightOf a b env os w o right m = All IsCarriedPattern os → IfSome w IsTypeOperand → IsCarried o → TypesRightParts a b env (patterns_of a.item os) (option_map (λ q. type_of a.item q) w) (expression_of a.item o) right m

-- the right side of a binding, by its node
abbrev pub TypesRightNode : (a b : Parts) → List Entry → (n : ℕ) → Tree → (right m : ℕ) → Type 0
TypesRightNode a b env n t right m = IsBindingNode n t → TypesRight a b env (λ c. right_side c (binding_over a.item n t)) (binding_over a.item n t) right m

-- the same after the record of the binding's number
abbrev pub RecordsRightNode : (a b : Parts) → List Entry → (n : ℕ) → Tree → (right m : ℕ) → Type 0
RecordsRightNode a b env n t right m = IsBindingNode n t → TypesRight a b env (λ c. tell (binding_over a.item n t).node c ++ right_side c (binding_over a.item n t)) (binding_over a.item n t) right m

-- the demand that the pattern of a binding has the type of the whole
abbrev pub AsksWholeOf : (a b : Parts) → List Entry → Numbered → (found whole : ℕ) → Type 0
AsksWholeOf a b env o found whole = AsksWhole a b env (pattern_of a.item o) found whole

-- a binding without `rec`, by its node: it is typed, and mentions names
pub record TurnOf (a b : Parts) (env : List Entry) (seen seen' : List Name) (x : Binding) (y : TypedBinding) : Type 0 where
  pub sees : seen' ≡ seen ++ x.pattern.mentions
  pub typed : TypesTurn a b env seen x y

-- the same of a node that is one
abbrev pub TypesTurnNode : (a b : Parts) → List Entry → (n : ℕ) → Tree → (seen seen' : List Name) → TypedBinding → Type 0
TypesTurnNode a b env n t seen seen' y = IsBindingNode n t → TurnOf a b env seen seen' (binding_over a.item n t) y

-- an operand without `rec`
abbrev pub TypesTurnOperand : (a b : Parts) → List Entry → Numbered → (seen seen' : List Name) → (ys ys' : List TypedBinding) → Type 0
TypesTurnOperand a b env o seen seen' ys ys' = IsBinding o → TypesTurnIf a b env seen seen' ys ys' (binding_of a.item o)

-- operands without `rec`
abbrev pub TypesInTurn : (a b : Parts) → List Entry → List Numbered → List TypedBinding → Type 0
TypesInTurn a b env os ys = All IsBinding os → TypesBindings a b env (λ c. bound_in_turn c [] (bindings_of a.item os)) (bindings_of a.item os) ys

-- the pattern of an operand with `rec`
abbrev pub OpensOperand : (a b : Parts) → List Entry → Numbered → (seen seen' : List Name) → (ys ys' : List OpenedBinding) → Type 0
OpensOperand a b env o seen seen' ys ys' = IsBinding o → OpensIf a b env seen seen' ys ys' (binding_of a.item o)

-- the patterns of operands with `rec`
abbrev pub OpensOperands : (a b : Parts) → List Entry → List Numbered → List OpenedBinding → Type 0
OpensOperands a b env os ys = All IsBinding os → OpensAll a b env (bindings_of a.item os) ys

-- the right side of a node whose pattern is typed
abbrev pub ConcludesNode : (a b : Parts) → List Entry → (n : ℕ) → Tree → OpenedBinding → TypedBinding → Type 0
ConcludesNode a b env n t o y = IsBindingNode n t → ConcludesBinding a b env (binding_over a.item n t) o y

-- the right sides of nodes whose patterns are typed
abbrev pub ConcludesNodes : (a b : Parts) → List Entry → List NumberedNode → List OpenedBinding → List TypedBinding → Type 0
ConcludesNodes a b env xs os ys = All IsNumberedBinding xs → ConcludesAll a b env (bindings_over a.item xs) os ys

-- operands with `rec`
abbrev pub TypesTogether : (a b : Parts) → List Entry → List Numbered → List TypedBinding → Type 0
TypesTogether a b env os ys = All IsBinding os → TypesBindings a b env (λ c. bound_together c (bindings_of a.item os)) (bindings_of a.item os) ys

-- the group of a row, whose bindings stand in slot 2; it has `rec` where there is a token in slot 1
abbrev pub TypesGroupNode : (a b : Parts) → List Entry → (n : ℕ) → Tree → List TypedBinding → Type 0
TypesGroupNode a b env n t ys = All IsBinding (operands_in n t 2) → TypesGroup a b env (is_some (token_in t 1)) (bindings_of a.item (operands_in n t 2)) ys

-- the first right sides of nodes are typed, and some nodes are left, which are bindings
pub record ConcludesNodesFirst (a b : Parts) (env : List Entry) (all left : List NumberedNode) (opened os : List OpenedBinding) (ys : List TypedBinding) : Type 0 where
  pub are : All IsNumberedBinding left
  pub typed : ConcludesFirst a b env (bindings_over a.item all) (bindings_over a.item left) opened os ys

-- operands of the code as bindings
abbrev pub bindings_left : ℕ → List Operand → List Binding
bindings_left i os = bindings_of i (map operand_view os)

-- the first operands without `rec` are typed, and some are left; `now` are the names seen so far
abbrev pub TypesInTurnFirst : (a b : Parts) → List Entry → (all left : List Operand) → (now : List Name) → List TypedBinding → Type 0
TypesInTurnFirst a b env all left now ys = All IsBinding (map operand_view all) → TypesTurnsFirst a b env (bindings_left a.item all) (bindings_left a.item left) now ys

-- the same of the patterns of operands with `rec`
abbrev pub OpensOperandsFirst : (a b : Parts) → List Entry → (all left : List Operand) → (now : List Name) → List OpenedBinding → Type 0
OpensOperandsFirst a b env all left now ys = All IsBinding (map operand_view all) → OpensFirst a b env (bindings_left a.item all) (bindings_left a.item left) now ys
