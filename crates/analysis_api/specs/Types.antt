-- What an analysis has recorded for the nodes of items, against a typing of the definitions.
use Rattle.std.specs.Prelude.{◌≡◌, ◌<◌, true, ℕ, ◌+◌, ◌*◌, ◌^◌, List, All, length, option_map, Some}
use Rattle.tree_model.specs.Trees.{Tree}
use Rattle.type_model.specs.Types.{Path, Typ}
use Rattle.signature_model.specs.Declarations.{Name}
use Rattle.signature_model.specs.Entries.{Environment}
use Rattle.type_print_model.specs.Paths.{IsNameOf}
use Rattle.type_print_model.specs.Printing.{mentions}
use Rattle.typing_model.specs.Plain.{has_lets_alone}
use Rattle.typed_model.specs.Shown.{IsToldTyped, IsTypingOf, IsCalled, asked}
use Rattle.typed_model.specs.Weak.{AreWeak}
use Rattle.type_terms.specs.declared.types.NodeRef.{NodeRef}
use Rattle.type_nodes.specs.Links.{root}
use Rattle.type_nodes.specs.Views.{numbers}
use Rattle.env_table.specs.declared.seen.Seen.{Seen}
use Rattle.typed_index.specs.Seen.{seen_at}
use Rattle.type_print.specs.Paths.{naming}
use Rattle.type_print.specs.Shown.{shown}
use Rattle.type_print.specs.Texts.{IsAscii}
use Rattle.analysis_api.specs.declared.Analysis.{Analysis}

-- For a node of this number a type is recorded, which its node in the store shows, and names in scope, by which each constructor in it has a name of one byte a character that a path of the environment gives it.
pub record HasType (x : Analysis) (n : ℕ) (E : Environment) (t : Typ) : Type 0 where
  pub item : ℕ
  pub place : ℕ
  pub number : n ≡ item * 2 ^ 32 + place
  pub seen : Seen
  pub at : seen_at x.index.now item place ≡ Some seen
  pub node : ℕ
  pub typed : option_map (λ (m : NodeRef). m.0) seen.ty ≡ Some node
  pub inside : node < length x.store.now.nodes
  pub shows : shown x.store.now.nodes node ≡ t
  pub called : (declared : Path → Name) (o : Path) (s : List ℕ) → mentions o t ≡ true → IsNameOf naming seen.env declared o s → IsCalled E o s × IsAscii s

-- What is recorded for items is a typing of them: for each node that is told with its type.
pub record AreTyped (items : List Tree) (x : Analysis) : Type 0 where
  pub typing : IsTypingOf items
  pub each : (n : ℕ) (E : Environment) (t : Typ) → IsToldTyped n E t (asked typing) → HasType x n E (typing.choice.type_at n)

-- The same with its weak variables: what is listed as weak are nodes that read as themselves, and, where the items are `let` and `;;` alone, the variables that are free in the names after them.
pub record AreSettled (items : List Tree) (x : Analysis) : Type 0 where
  pub typed : AreTyped items x
  pub own : All (λ v. (v < length x.store.now.nodes) × (root x.store.now.nodes v ≡ v)) (numbers x.weak.now)
  pub weak : has_lets_alone items ≡ true → AreWeak items typed.typing.env typed.typing.kept typed.typing.choice (numbers x.weak.now)
