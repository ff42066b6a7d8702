-- The types of a text's expressions and patterns, as they are shown.
use Rattle.std.specs.Prelude.{◌≡◌, ℕ, Bool, true, ◌+◌, ◌*◌, ◌^◌, List, ◌∷◌, ◌++◌}
use Rattle.std.specs.List.{AllZip}
use Rattle.tree_model.specs.Trees.{Tree}
use Rattle.tree_model.specs.Nodes.{Id}
use Rattle.query_model.specs.TypedNodes.{Typed}
use Rattle.type_model.specs.Types.{Path, Typ}
use Rattle.signature_model.specs.Entries.{Environment}
use Rattle.type_print_model.specs.Variables.{variable_name, variables_of}
use Rattle.type_print_model.specs.Paths.{NamePath, IsShown, spelled, naming}
use Rattle.type_print_model.specs.Printing.{alone, cut, mentions, text_of}
use Rattle.typing_model.specs.Demands.{Site, Condition, treated, known, AllHold}
use Rattle.typing_model.specs.Contexts.{Choice}
use Rattle.typing_model.specs.Typings.{conditions_of, IsKept, IsPrincipal}
use Rattle.typing_model.specs.First.{IsFirst}
use Rattle.typing_model.specs.Plain.{has_lets_alone}
use Rattle.typed_model.specs.Weak.{AreWeak}

-- the number of a node among those of all items
abbrev pub number_of : Id → ℕ
number_of i = i.item * 2 ^ 32 + i.pre

-- Conditions tell that a node is treated in an environment, and directly after it that its type is known, as they do of each expression and pattern.
pub record IsToldTyped (n : ℕ) (E : Environment) (t : Typ) (cs : List Condition) : Type 0 where
  pub before : List Condition
  pub after : List Condition
  pub is : cs ≡ before ++ treated n E ∷ known t ∷ after

-- A typing of items with the demands that are kept of them: from the first environment, and a most general one.
pub record IsTypingOf (items : List Tree) : Type 0 where
  pub env : Environment
  pub first : IsFirst env
  pub kept : Site → Bool
  pub keeps : IsKept env items kept
  pub choice : Choice
  pub principal : IsPrincipal env items kept choice.type_at
  pub holds : AllHold kept (conditions_of env items kept choice)

-- what the items ask in such a typing
abbrev pub asked : {items : List Tree} → IsTypingOf items → List Condition
asked {items} t = conditions_of t.env items t.kept t.choice

-- A type's constructor is called by a path of names that reaches it, the shortest one, and of these the newest.
pub record IsCalled (E : Environment) (o : Path) (name : List ℕ) : Type 0 where
  pub path : NamePath
  pub shown : IsShown naming E o path
  pub spelled : name ≡ spelled path

-- A type as it is shown with the names of an environment, some of its variables being weak: each constructor in it is called by a path, and a text of over 4,096 bytes is cut.
pub record IsShownAs (E : Environment) (weak : List ℕ) (t : Typ) (shown : List ℕ) : Type 0 where
  pub origin : Path → List ℕ
  pub called : (o : Path) → mentions o t ≡ true → IsCalled E o (origin o)
  pub text : shown ≡ cut (text_of (record { variable = variable_name weak (variables_of t); origin = origin }) alone t)

-- The type of a node as it is shown, with the names in scope where the node is treated, where it is told with its type, as each typed node of a text without modules is (`plain_nodes_are_typed` of `scope_laws`).
pub record IsShownAt {items : List Tree} (t : IsTypingOf items) (weak : List ℕ) (n : Typed) (shown : List ℕ) : Type 0 where
  pub each : (names : Environment) (u : Typ) → IsToldTyped (number_of n.id) names u (asked t) → IsShownAs names weak (t.choice.type_at (number_of n.id)) shown

-- Nodes of items are shown with these types: those of one principal typing, in which some variables are weak: where the items are `let` and `;;` alone, those that are free in the names after them.
pub record AreShown (items : List Tree) (nodes : List Typed) (texts : List (List ℕ)) : Type 0 where
  pub typing : IsTypingOf items
  pub weak : List ℕ
  pub are_weak : has_lets_alone items ≡ true → AreWeak items typing.env typing.kept typing.choice weak
  pub each : AllZip (IsShownAt typing weak) nodes texts
