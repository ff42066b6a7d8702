-- Nodes that are told with their types, and types in which no variable is weak.
use Rattle.std.specs.Prelude.{◌≡◌, ℕ, true, List}
use Rattle.query_model.specs.TypedNodes.{Typed}
use Rattle.type_model.specs.Types.{Typ, occurs}
use Rattle.tree_model.specs.Trees.{Tree}
use Rattle.signature_model.specs.Entries.{Environment}
use Rattle.type_print_model.specs.Variables.{is_among}
use Rattle.typed_model.specs.Shown.{number_of, IsToldTyped, IsTypingOf, asked}

-- no variable of a type is one of these
abbrev pub HasNone : List ℕ → Typ → Type 0
HasNone weak t = (v : ℕ) → occurs v t ≡ true → is_among v weak ≡ true → ⊥

-- the type that a typing gives a node
abbrev pub type_at : {items : List Tree} → IsTypingOf items → Typed → Typ
type_at t n = t.choice.type_at (number_of n.id)

-- a node is told with its type in an environment
pub record IsTold {items : List Tree} (t : IsTypingOf items) (n : Typed) : Type 0 where
  pub names : Environment
  pub told : IsToldTyped (number_of n.id) names (type_at t n) (asked t)
