-- Which patterns are made of rows whose conditions are carried so far.
use Rattle.std.specs.Prelude.{◌≡◌, ℕ, List, ◌++◌, All}
use Rattle.tree_model.specs.Rows.{Row}
use Rattle.tree_model.specs.Trees.{Place, Tree, inner}
use Rattle.row_parts.specs.Numbered.{Numbered, numbered}
use Rattle.env_table.specs.declared.entries.Entry.{Entry}
use Rattle.typing_state.specs.declared.parts.Parts.{Parts}
use Rattle.signature_model.specs.Declarations.{Name}
use Rattle.operand_laws.specs.Formed.{row_of, IsOperandFormed}
use Rattle.operand_laws.specs.Operands.{pattern_of}
use Rattle.typing_rows.specs.CarriedRows.{IsOfCarriedPatterns}
use Rattle.pattern_rows.specs.Bounds.{Bind}
use Rattle.typing_model.specs.Patterns.{all_mentions}
use Rattle.pattern_rows.specs.Contracts.{patterns_of, Matches, MatchesInOrder}
use Rattle.pattern_rows.specs.Sides.{Side, MatchesSides}

-- an operand whose tree is well formed and made of such rows
pub record IsCarriedPattern (o : Numbered) : Type 0 where
  pub formed : IsOperandFormed o
  pub rows : IsOfCarriedPatterns o.part

-- what is carried of an operand that is such a pattern
abbrev pub MatchesOperand : (a b : Parts) → List Entry → Numbered → (names names' : List Bind) (seen seen' : List Name) → ℕ → Type 0
MatchesOperand a b env o names names' seen seen' m = IsCarriedPattern o → Matches a b env (pattern_of a.item o) names names' seen seen' m

-- the same of a node, wherever it stands
abbrev pub MatchesNode : (a b : Parts) → List Entry → (number : ℕ) → Tree → (names names' : List Bind) (seen seen' : List Name) → ℕ → Type 0
MatchesNode a b env number t names names' seen seen' m = (place : Place) → MatchesOperand a b env (numbered number place (inner t)) names names' seen seen' m

-- the same of a node with this row
abbrev pub MatchesNodeOf : Row → (a b : Parts) → List Entry → (number : ℕ) → Tree → (names names' : List Bind) (seen seen' : List Name) → ℕ → Type 0
MatchesNodeOf r a b env number t names names' seen seen' m = row_of t ≡ r → MatchesNode a b env number t names names' seen seen' m

-- the same of operands in order
abbrev pub MatchesOperands : (a b : Parts) → List Entry → List Numbered → (names names' : List Bind) (seen seen' : List Name) → List ℕ → Type 0
MatchesOperands a b env os names names' seen seen' ms = All IsCarriedPattern os → MatchesInOrder a b env (patterns_of a.item os) names names' seen seen' ms

-- the same of operands beside one another; all names in them stand behind those seen before
abbrev pub MatchesBeside : (a b : Parts) → List Entry → List Numbered → (seen seen' : List Name) → List Side → Type 0
MatchesBeside a b env os seen seen' sides = All IsCarriedPattern os → MatchesSides a b env (patterns_of a.item os) seen sides × (seen' ≡ seen ++ all_mentions (patterns_of a.item os))
