-- Whether the names of bindings are generalised, as calls find it.
use Rattle.std.specs.Prelude.{◌≡◌, ◌++◌, ℕ, Bool, List, map, All}
use Rattle.std.specs.Option.{option_to_list}
use Rattle.tree_model.specs.Rows.{Row, elet_row}
use Rattle.tree_model.specs.Trees.{Place, Tree, inner}
use Rattle.typing_model.specs.Contexts.{Context}
use Rattle.typing_model.specs.Parts.{Binding}
use Rattle.typing_model.specs.Bindings.{generalises}
use Rattle.typing_model.specs.Expressions.{all_values}
use Rattle.type_nodes.specs.Readings.{Types}
use Rattle.level_unify.specs.Solutions.{Loose}
use Rattle.env_table.specs.declared.entries.Entry.{Entry}
use Rattle.row_parts.specs.declared.slots.Operand.{Operand}
use Rattle.row_parts.specs.Numbered.{Numbered, numbered, operand_view, operands_in, filled_in}
use Rattle.operand_laws.specs.Formed.{row_of, IsFormed}
use Rattle.operand_laws.specs.Operands.{expression_of}
use Rattle.typing_conditions.specs.Sights.{Sight, Letters, Agrees}
use Rattle.typing_conditions.specs.Frames.{Frame}
use Rattle.typing_conditions.specs.Carrying.{Scope, HoldsWritten, IsUnder}
use Rattle.typing_conditions.specs.Surroundings.{Declared, Surrounds}
use Rattle.typing_steps.specs.Typing.{as_declared}
use Rattle.typing_rows.specs.Asked.{row_expression, expressions_of}
use Rattle.typing_rows.specs.CarriedRows.{IsCarried}
use Rattle.binding_rows.specs.Carried.{IsBindingNode, IsBinding, NumberedNode, IsNumberedBinding}
use Rattle.binding_rows.specs.Operands.{binding_of, bindings_of, binding_over, bindings_over, bindings_left}

-- A context among names of the code: there is a state that they surround, at which types fit loosely, and with which what the context chooses agrees.
pub record IsAmong (D : Declared) (env : List Entry) (c : Context) : Type 0 where
  pub state : Sight
  pub frame : Frame
  pub scope : Scope
  pub letters : Letters
  pub types : Types
  pub at : Surrounds D frame state letters env scope
  pub loose : Loose state.nodes types
  pub under : IsUnder scope c
  pub agrees : Agrees frame.owner state letters types c.chosen
  pub named : HoldsWritten scope state

-- a call finds whether an expression is non-expansive among these names, by its operand
abbrev pub FindsValue : List Entry → Numbered → Bool → Type 0
FindsValue env o found = IsCarried o → (i : ℕ) (c : Context) → IsAmong as_declared env c → (expression_of i o).is_value c ≡ found

-- whether all of some expressions are
abbrev pub FindsValues : List Entry → List Numbered → Bool → Type 0
FindsValues env os found = All IsCarried os → (i : ℕ) (c : Context) → IsAmong as_declared env c → all_values c (expressions_of i os) ≡ found

-- whether an expression of this row is, by its node
abbrev pub FindsRowValue : List Entry → Row → ℕ → Tree → Bool → Type 0
FindsRowValue env r n t found = row_of t ≡ r → (place : Place) → IsCarried (numbered n place (inner t)) → (i : ℕ) (c : Context) → IsAmong as_declared env c → (row_expression i n place t).is_value c ≡ found

-- let p = e in e: its bindings and its body are carried
pub record IsLetNode (n : ℕ) (t : Tree) : Type 0 where
  pub formed : IsFormed n t
  pub row : row_of t ≡ elet_row
  pub bindings : All IsBinding (operands_in n t 2)
  pub body : IsCarried (filled_in n t 5)

-- whether the definitions generalise the names of each binding
abbrev pub verdicts : Context → List Binding → List Bool
verdicts c xs = map (λ x. generalises c x) xs

-- a call finds whether the names of a binding are generalised among these names, by its node
abbrev pub JudgesNode : List Entry → ℕ → Tree → Bool → Type 0
JudgesNode env n t found = IsBindingNode n t → (i : ℕ) (c : Context) → IsAmong as_declared env c → generalises c (binding_over i n t) ≡ found

-- after the verdicts so far comes that of an operand, where it is a binding
abbrev pub JudgesOperand : List Entry → Numbered → (before now : List Bool) → Type 0
JudgesOperand env o before now = IsBinding o → (i : ℕ) (c : Context) → IsAmong as_declared env c → now ≡ before ++ verdicts c (option_to_list (binding_of i o))

-- the verdicts of operands
abbrev pub JudgesOperands : List Entry → List Numbered → List Bool → Type 0
JudgesOperands env os found = All IsBinding os → (i : ℕ) (c : Context) → IsAmong as_declared env c → found ≡ verdicts c (bindings_of i os)

-- those of the first operands are found, and some operands are left
abbrev pub JudgesOperandsFirst : List Entry → (all left : List Operand) → List Bool → Type 0
JudgesOperandsFirst env all left found = All IsBinding (map operand_view all) → (i : ℕ) (c : Context) → IsAmong as_declared env c → found ++ verdicts c (bindings_left i left) ≡ verdicts c (bindings_left i all)

-- the verdicts of nodes
abbrev pub JudgesNodes : List Entry → List NumberedNode → List Bool → Type 0
JudgesNodes env xs found = All IsNumberedBinding xs → (i : ℕ) (c : Context) → IsAmong as_declared env c → found ≡ verdicts c (bindings_over i xs)

-- those of the first nodes are found, and some nodes are left, which are bindings
pub record JudgesNodesFirst (env : List Entry) (all left : List NumberedNode) (found : List Bool) : Type 0 where
  pub are : All IsNumberedBinding left
  pub found_so_far : (i : ℕ) (c : Context) → IsAmong as_declared env c → found ++ verdicts c (bindings_over i left) ≡ verdicts c (bindings_over i all)

-- the verdicts of the bindings of a row, which are in slot 2
abbrev pub JudgesGroup : List Entry → ℕ → Tree → List Bool → Type 0
JudgesGroup env n t found = JudgesOperands env (operands_in n t 2) found
