-- What is recorded of the names in scope at a node, against the environment in which the definitions treat it.
use Rattle.std.specs.Prelude.{◌≡◌, ℕ, Bool, true, List, Some}
use Rattle.signature_model.specs.Entries.{Environment}
use Rattle.type_nodes.specs.Nodes.{Node}
use Rattle.type_nodes.specs.Readings.{Types, IsReading}
use Rattle.env_table.specs.declared.entries.Entry.{Entry}
use Rattle.typing_conditions.specs.Assumptions.{SchemeReads}
use Rattle.typing_conditions.specs.Environments.{EnvAs}
use Rattle.typing_conditions.specs.Standing.{IsIn}
use Rattle.typing_conditions.specs.Declared.{DeclaredAs, ExceptionAs}
use Rattle.typing_conditions.specs.Sights.{Scopes, Recorded, number_in}

-- The code's names stand for those of an environment, entry by entry, at types that a store's nodes read as: schemes both ways, declarations by their roots.
pub record StandsFor (V : Types) (env : List Entry) (E : Environment) : Type 0 where
  pub nodes : List Node
  pub reads : IsReading nodes V
  pub roots : List ℕ
  pub names : Types
  pub are : EnvAs (λ r sc. SchemeReads nodes V r sc × IsIn roots r) (DeclaredAs nodes roots names) (ExceptionAs nodes roots names) env E

-- For a node of this number, among those of all items, names in scope are recorded that stand for those of the environment; and a type, where its type is told to be known.
pub record IsSeen (scopes : Scopes) (types : Recorded) (V : Types) (n : ℕ) (E : Environment) (is_typed : Bool) : Type 0 where
  pub item : ℕ
  pub place : ℕ
  pub number : n ≡ number_in item place
  pub env : List Entry
  pub at : scopes item place ≡ Some env
  pub stands : StandsFor V env E
  pub typed : is_typed ≡ true → (m : ℕ) × (types item place ≡ Some m)
