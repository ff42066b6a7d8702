-- What the operands of a row denote, as type expressions of a declaration.
use Rattle.std.specs.Prelude.{◌≡◌, ℕ, true, List, [], ◌∷◌, All, Option}
use Rattle.token_model.specs.Kinds.{Tok}
use Rattle.tree_model.specs.Trees.{Place, Tree, Part, inner}
use Rattle.row_parts.specs.Numbered.{Numbered}
use Rattle.signature_model.specs.Declarations.{Name}
use Rattle.typing_model.specs.Parts.{Written, TypeExpression}
use Rattle.typing_model.specs.TypeExpressions.{read_all, nodes_of, tvar, constructor_asks, in_parentheses}
use Rattle.type_nodes.specs.Nodes.{IsNode, Arrow}
use Rattle.type_nodes.specs.Changes.{Makes}
use Rattle.env_table.specs.declared.entries.Entry.{Entry}
use Rattle.typing_state.specs.declared.parts.Parts.{Parts}
use Rattle.typing_state.specs.Goes.{OnlyStore}
use Rattle.typing_conditions.specs.Frames.{Frame}
use Rattle.typing_conditions.specs.Carrying.{Asks}
use Rattle.typing_steps.specs.States.{is_aloud}
use Rattle.operand_laws.specs.Formed.{row_of, IsFormed, IsPartFormed}
use Rattle.operand_laws.specs.Operands.{number_of, type_of}
use Rattle.typing_rows.specs.Rows.{types_read, front_nodes, front_asks, end_asks}
use Rattle.typing_rows.specs.Operands.{IsPartPlaced, IsTypeOperand, part_asks, HasNoConstructor}
use Rattle.typing_rows.specs.Settled.{Before, Around}
use Rattle.declared_rows.specs.Assignments.{Assignment}
use Rattle.declared_rows.specs.Contracts.{Inside, EndDenoted, DenotesTo, DenotesAll, DenotesRow, DenotesEnd}

-- the end of a type expression without parts
abbrev pub DenotesAlone : (a b : Parts) → List Entry → List Name → (ps : List ℕ) → Asks → (n m : ℕ) → Type 0
DenotesAlone a b env names ps asks n m = is_aloud a.telling ≡ true → (B : Before) → Around env names B → (F : Frame) (arity : ℕ) (U : List ℕ) (A : Assignment) → Inside F arity U a A B.named env ps → EndDenoted B asks F arity U a b A n m

-- what an operand denotes as a type expression
abbrev pub DenotesOperand : (a b : Parts) → List Entry → List Name → (ps : List ℕ) → Numbered → ℕ → Type 0
DenotesOperand a b env names ps o m = IsTypeOperand o → DenotesTo a b env names ps (λ c. (type_of a.item o).read c) (type_of a.item o).node m

-- the same of a part, up to the record of its node
abbrev pub DenotesPart : (a b : Parts) → List Entry → List Name → (ps : List ℕ) → (number : ℕ) → Place → Part → ℕ → Type 0
DenotesPart a b env names ps number at p m = IsPartFormed number p → IsPartPlaced at p → DenotesRow a b env names ps (λ c. part_asks a.item number at p c) (number_of a.item number) m

-- the same of operands in order
abbrev pub DenotesOperands : (a b : Parts) → List Entry → List Name → (ps : List ℕ) → List Numbered → List ℕ → Type 0
DenotesOperands a b env names ps os ms = All IsTypeOperand os → DenotesAll a b env names ps (λ c. read_all c (types_read a.item os)) (nodes_of (types_read a.item os)) ms

-- the same of what stands in front of a constructor
abbrev pub DenotesGiven : (a b : Parts) → List Entry → List Name → (ps : List ℕ) → Numbered → List ℕ → Type 0
DenotesGiven a b env names ps o ms = IsTypeOperand o → DenotesAll a b env names ps (λ c. (type_of a.item o).grouped_read c) (type_of a.item o).grouped ms

-- the same of the parts of a node
abbrev pub DenotesFront : (a b : Parts) → List Entry → List Name → (ps : List ℕ) → (number : ℕ) → Tree → List ℕ → Type 0
DenotesFront a b env names ps number t ms = IsFormed number t → DenotesAll a b env names ps (λ c. front_asks (row_of t) a.item number t c) (front_nodes (row_of t) a.item number t) ms

-- the end of a node whose parts denote their types, whatever its number
abbrev pub DenotesEnds : (a b : Parts) → List Entry → List Name → (ps : List ℕ) → Tree → List ℕ → ℕ → Type 0
DenotesEnds a b env names ps t ms m = (number : ℕ) (at : Place) → IsFormed number t → IsPartPlaced at (inner t) →
    DenotesEnd a b env names ps (λ c. end_asks (row_of t) a.item number at t c) (front_nodes (row_of t) a.item number t) ms (number_of a.item number) m

-- a type variable, which may be missing, among any names and for any node
abbrev pub DenotesVariable : (a b : Parts) → List Name → (ps : List ℕ) → Option Tok → ℕ → Type 0
DenotesVariable a b names ps o m = (env : List Entry) (n : ℕ) (at : Place) → DenotesAlone a b env names ps (λ c. (tvar n at o).read c) n m

-- a constructor of types behind its arguments, for any node
abbrev pub DenotesName : (a b : Parts) → List Entry → List Name → (ps : List ℕ) → Written → List ℕ → ℕ → Type 0
DenotesName a b env names ps p ms m = (ns : List ℕ) (n : ℕ) → DenotesEnd a b env names ps (λ c. constructor_asks c n p ns) ns ms n m

-- the end of parentheses around one type expression or more
abbrev pub DenotesParentheses : (a b : Parts) → List Name → (ps : List ℕ) → Place → List ℕ → ℕ → Type 0
DenotesParentheses a b names ps at ms m = (env : List Entry) (n : ℕ) (t : TypeExpression) (ts : List TypeExpression) → DenotesEnd a b env names ps (λ c. in_parentheses c n at (t ∷ ts)) (nodes_of (t ∷ ts)) ms n m

-- the end of a node without a constructor, whatever its number and the names in scope
abbrev pub DenotesPlain : (a b : Parts) → List Name → (ps : List ℕ) → Tree → List ℕ → ℕ → Type 0
DenotesPlain a b names ps t ms m = HasNoConstructor (row_of t) → (env : List Entry) (number : ℕ) (at : Place) → IsFormed number t → IsPartPlaced at (inner t) →
    DenotesEnd a b env names ps (λ c. end_asks (row_of t) a.item number at t c) (front_nodes (row_of t) a.item number t) ms (number_of a.item number) m

-- an arrow over two types is made, where there are two
abbrev pub MakesArrow : (a b : Parts) → List ℕ → ℕ → Type 0
MakesArrow a b (x ∷ y ∷ []) m = (IsNode a.store.nodes x → IsNode a.store.nodes y → Makes a.store b.store m (Arrow x y)) × OnlyStore a b
MakesArrow a b _ m = Unit {0}
