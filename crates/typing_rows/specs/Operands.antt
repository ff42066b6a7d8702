-- What is carried of the operands of a row, as type expressions of an item.
use Rattle.std.specs.Prelude.{◌≡◌, ℕ, true, List, [], ◌∷◌, ◌++◌, All, Option}
use Rattle.token_model.specs.Kinds.{Tok}
use Rattle.tree_model.specs.Rows.{Row, tcon_row, tapp_row}
use Rattle.tree_model.specs.Trees.{Place, Tree, Part, node, taken, inner, missing}
use Rattle.row_parts.specs.Numbered.{Numbered}
use Rattle.type_model.specs.Types.{Typ}
use Rattle.typing_model.specs.Demands.{Condition, equal}
use Rattle.typing_model.specs.Contexts.{Choice, Context, ask, type_at, unresolved}
use Rattle.typing_model.specs.Parts.{Written, TypeExpression}
use Rattle.typing_model.specs.TypeExpressions.{read_all, nodes_of, tvar, constructor_asks, in_parentheses}
use Rattle.type_nodes.specs.Nodes.{Arrow, IsNode}
use Rattle.type_nodes.specs.Changes.{Makes}
use Rattle.env_table.specs.declared.entries.Entry.{Entry}
use Rattle.typing_state.specs.declared.parts.Parts.{Parts}
use Rattle.typing_state.specs.Goes.{OnlyStore}
use Rattle.typing_conditions.specs.Sights.{Letters}
use Rattle.typing_conditions.specs.Frames.{Frame}
use Rattle.typing_conditions.specs.Meanings.{Means}
use Rattle.typing_conditions.specs.Carrying.{Scope}
use Rattle.typing_conditions.specs.Surroundings.{Surrounds}
use Rattle.typing_steps.specs.States.{is_aloud, sight}
use Rattle.typing_steps.specs.Typing.{as_declared}
use Rattle.operand_laws.specs.Formed.{row_of, IsFormed, IsPartFormed, IsOperandFormed}
use Rattle.operand_laws.specs.Operands.{number_of, type_of}
use Rattle.typing_rows.specs.TypeContracts.{ReadAs, ReadsRow, ReadsTo, ReadsAll, EndsRead}
use Rattle.typing_rows.specs.Rows.{types_read, front_nodes, front_asks, end_asks}

-- a node's place is that of its extent
abbrev pub IsPartPlaced : Place → Part → Type 0
IsPartPlaced at (taken t) = Unit {0}
IsPartPlaced at (inner (node r x ps)) = at ≡ x.span
IsPartPlaced at (missing q) = Unit {0}

-- the same of an operand
abbrev pub IsPlaced : Numbered → Type 0
IsPlaced o = IsPartPlaced o.at o.part

-- an operand whose tree is well formed and whose place is that of its node
pub record IsTypeOperand (o : Numbered) : Type 0 where
  pub formed : IsOperandFormed o
  pub placed : IsPlaced o

-- what is asked of a part with this number, once its node is treated
abbrev pub part_asks : (i n : ℕ) → Place → Part → Context → List Condition
part_asks i n at (taken t) c = unresolved c (number_of i n)
part_asks i n at (inner t) c = front_asks (row_of t) i n t c ++ end_asks (row_of t) i n at t c
part_asks i n at (missing q) c = unresolved c (number_of i n)

-- what is carried of an operand as a type expression
abbrev pub ReadsOperand : (a b : Parts) → List Entry → Numbered → ℕ → Type 0
ReadsOperand a b env o m = IsTypeOperand o → ReadsTo a b env (λ c. (type_of a.item o).read c) (type_of a.item o).node m

-- the same of a part, up to the record of its node
abbrev pub ReadsPart : (a b : Parts) → List Entry → (number : ℕ) → Place → Part → ℕ → Type 0
ReadsPart a b env number at p m = IsPartFormed number p → IsPartPlaced at p → ReadsRow a b env (λ c. part_asks a.item number at p c) (number_of a.item number) m

-- the same of operands in order
abbrev pub ReadsOperands : (a b : Parts) → List Entry → List Numbered → List ℕ → Type 0
ReadsOperands a b env os ms = All IsTypeOperand os → ReadsAll a b env (λ c. read_all c (types_read a.item os)) (nodes_of (types_read a.item os)) ms

-- the same of what stands in front of a constructor
abbrev pub ReadsGiven : (a b : Parts) → List Entry → Numbered → List ℕ → Type 0
ReadsGiven a b env o ms = IsTypeOperand o → ReadsAll a b env (λ c. (type_of a.item o).grouped_read c) (type_of a.item o).grouped ms

-- the same of the parts of a node
abbrev pub ReadsFront : (a b : Parts) → List Entry → (number : ℕ) → Tree → List ℕ → Type 0
ReadsFront a b env number t ms = IsFormed number t → ReadsAll a b env (λ c. front_asks (row_of t) a.item number t c) (front_nodes (row_of t) a.item number t) ms

-- the end of a node whose parts are read, whatever its number
abbrev pub EndsRow : (a b : Parts) → List Entry → Tree → List ℕ → ℕ → Type 0
EndsRow a b env t ms m = (number : ℕ) (at : Place) → IsFormed number t → IsPartPlaced at (inner t) →
    EndsRead a b env (λ c. end_asks (row_of t) a.item number at t c) (front_nodes (row_of t) a.item number t) ms (number_of a.item number) m

-- a type variable, which may be missing, among any names and for any node
abbrev pub ReadsVariable : (a b : Parts) → Option Tok → ℕ → Type 0
ReadsVariable a b o m = (env : List Entry) (n : ℕ) (at : Place) → ReadsRow a b env (λ c. (tvar n at o).read c) n m

-- a constructor of types behind its arguments, for any node
abbrev pub EndsName : (a b : Parts) → List Entry → Written → List ℕ → ℕ → Type 0
EndsName a b env p ms m = (ns : List ℕ) (n : ℕ) → EndsRead a b env (λ c. constructor_asks c n p ns) ns ms n m

-- the end of parentheses around any type expressions
abbrev pub EndsParentheses : (a b : Parts) → Place → List ℕ → ℕ → Type 0
EndsParentheses a b at ms m = (env : List Entry) (n : ℕ) (ts : List TypeExpression) → EndsRead a b env (λ c. in_parentheses c n at ts) (nodes_of ts) ms n m

-- an arrow over two types
abbrev pub MakesArrowOver : (a b : Parts) → List ℕ → ℕ → Type 0
MakesArrowOver a b (x ∷ y ∷ []) m = (IsNode a.store.nodes x → IsNode a.store.nodes y → Makes a.store b.store m (Arrow x y)) × OnlyStore a b
MakesArrowOver a b _ m = Unit {0}

-- a row that names no constructor of types
abbrev pub HasNoConstructor : Row → Type 0
HasNoConstructor tcon_row = ⊥
HasNoConstructor tapp_row = ⊥
HasNoConstructor _ = Unit {0}

-- the end of a node without a constructor, whatever its number and the names in scope
abbrev pub EndsPlainRow : (a b : Parts) → Tree → List ℕ → ℕ → Type 0
EndsPlainRow a b t ms m = HasNoConstructor (row_of t) → (env : List Entry) (number : ℕ) (at : Place) → IsFormed number t → IsPartPlaced at (inner t) →
    EndsRead a b env (λ c. end_asks (row_of t) a.item number at t c) (front_nodes (row_of t) a.item number t) ms (number_of a.item number) m

-- a part with the type `is` has the type w that is written behind it, whose node has a letter then; it is demanded for any site
abbrev pub Annotates : (a b : Parts) → List Entry → TypeExpression → Place → (found m : ℕ) → Type 0
Annotates a b env w place found m = is_aloud a.telling ≡ true → (F : Frame) (scope : Scope) (G : Letters) (n k : ℕ) (is : Choice → Typ) → scope.own n ≡ true → Surrounds as_declared F (sight a) G env scope → Means F (sight a) G is found →
    ReadAs F scope (λ c. w.read c ++ ask n k place (equal (is c.chosen) (type_at c w.node))) (sight a) G (sight b) w.node m
