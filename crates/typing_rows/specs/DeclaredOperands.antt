-- What is settled of the operands of a row, as type expressions of a declaration.
use Rattle.std.specs.Prelude.{ℕ, List, ◌∷◌, All, Option}
use Rattle.token_model.specs.Kinds.{Tok}
use Rattle.tree_model.specs.Trees.{Place, Tree, Part, inner}
use Rattle.row_parts.specs.Numbered.{Numbered}
use Rattle.signature_model.specs.Declarations.{Name}
use Rattle.typing_model.specs.Parts.{Written, TypeExpression}
use Rattle.typing_model.specs.TypeExpressions.{read_all, nodes_of, tvar, constructor_asks, in_parentheses}
use Rattle.env_table.specs.declared.entries.Entry.{Entry}
use Rattle.typing_state.specs.declared.parts.Parts.{Parts}
use Rattle.operand_laws.specs.Formed.{row_of, IsFormed, IsPartFormed}
use Rattle.operand_laws.specs.Operands.{number_of, type_of}
use Rattle.typing_rows.specs.Rows.{types_read, front_nodes, front_asks, end_asks}
use Rattle.typing_rows.specs.Operands.{IsPartPlaced, IsTypeOperand, part_asks, HasNoConstructor}
use Rattle.typing_rows.specs.DeclaredContracts.{SettlesTo, SettlesAll, SettlesEnd}

-- what is settled of an operand as a type expression
abbrev pub SettlesOperand : (a b : Parts) → List Entry → List Name → Numbered → Type 0
SettlesOperand a b env names o = IsTypeOperand o → SettlesTo a b env names (λ c. (type_of a.item o).read c) (type_of a.item o).node

-- the same of a part, up to the record of its node
abbrev pub SettlesPart : (a b : Parts) → List Entry → List Name → (number : ℕ) → Place → Part → Type 0
SettlesPart a b env names number at p = IsPartFormed number p → IsPartPlaced at p → SettlesTo a b env names (λ c. part_asks a.item number at p c) (number_of a.item number)

-- the same of operands in order
abbrev pub SettlesOperands : (a b : Parts) → List Entry → List Name → List Numbered → List ℕ → Type 0
SettlesOperands a b env names os ms = All IsTypeOperand os → SettlesAll a b env names (λ c. read_all c (types_read a.item os)) (nodes_of (types_read a.item os)) ms

-- the same of what stands in front of a constructor
abbrev pub SettlesGiven : (a b : Parts) → List Entry → List Name → Numbered → List ℕ → Type 0
SettlesGiven a b env names o ms = IsTypeOperand o → SettlesAll a b env names (λ c. (type_of a.item o).grouped_read c) (type_of a.item o).grouped ms

-- the same of the parts of a node
abbrev pub SettlesFront : (a b : Parts) → List Entry → List Name → (number : ℕ) → Tree → List ℕ → Type 0
SettlesFront a b env names number t ms = IsFormed number t → SettlesAll a b env names (λ c. front_asks (row_of t) a.item number t c) (front_nodes (row_of t) a.item number t) ms

-- the end of a node whose parts are settled, whatever its number
abbrev pub SettlesRow : (a b : Parts) → List Entry → List Name → Tree → List ℕ → Type 0
SettlesRow a b env names t ms = (number : ℕ) (at : Place) → IsFormed number t → IsPartPlaced at (inner t) →
    SettlesEnd a b env names (λ c. end_asks (row_of t) a.item number at t c) (front_nodes (row_of t) a.item number t) ms (number_of a.item number)

-- a type variable, which may be missing, among any names and for any node
abbrev pub SettlesVariable : (a b : Parts) → List Name → Option Tok → Type 0
SettlesVariable a b names o = (env : List Entry) (n : ℕ) (at : Place) → SettlesTo a b env names (λ c. (tvar n at o).read c) n

-- a constructor of types behind its arguments, for any node
abbrev pub SettlesName : (a b : Parts) → List Entry → List Name → Written → List ℕ → Type 0
SettlesName a b env names p ms = (ns : List ℕ) (n : ℕ) → SettlesEnd a b env names (λ c. constructor_asks c n p ns) ns ms n

-- the end of parentheses around one type expression or more
abbrev pub SettlesParentheses : (a b : Parts) → List Name → Place → List ℕ → Type 0
SettlesParentheses a b names at ms = (env : List Entry) (n : ℕ) (t : TypeExpression) (ts : List TypeExpression) → SettlesEnd a b env names (λ c. in_parentheses c n at (t ∷ ts)) (nodes_of (t ∷ ts)) ms n

-- the end of a node without a constructor, whatever its number and the names in scope
abbrev pub SettlesPlainRow : (a b : Parts) → List Name → Tree → List ℕ → Type 0
SettlesPlainRow a b names t ms = HasNoConstructor (row_of t) → (env : List Entry) (number : ℕ) (at : Place) → IsFormed number t → IsPartPlaced at (inner t) →
    SettlesEnd a b env names (λ c. end_asks (row_of t) a.item number at t c) (front_nodes (row_of t) a.item number t) ms (number_of a.item number)
