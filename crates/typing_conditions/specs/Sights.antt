-- A state of typing, as far as the definitions are concerned, and the types that a choice shares with its store.
use Rattle.std.specs.Prelude.{◌≡◌, ℕ, ◌+◌, ◌*◌, ◌^◌, ◌<◌, Bool, List, [], ◌∷◌, length, Option, Some}
use Rattle.tree_model.specs.Trees.{Place}
use Rattle.type_model.specs.Types.{Path, Typ}
use Rattle.signature_model.specs.Declarations.{Name}
use Rattle.signature_model.specs.Matching.{IsKnown}
use Rattle.typing_model.specs.Contexts.{Choice}
use Rattle.type_nodes.specs.Nodes.{Node, IsNode}
use Rattle.type_nodes.specs.Readings.{Types}
use Rattle.env_table.specs.declared.entries.Entry.{Entry}
use Rattle.env_table.specs.declared.faults.FaultKind.{FaultKind}

-- a fault that was reported
pub record Report : Type 0 where
  pub at : Place
  pub kind : FaultKind
  pub message : List ℕ

-- the nodes of the built-in types without parameters
pub record Fixed : Type 0 where
  pub int : ℕ
  pub char : ℕ
  pub string : ℕ
  pub float : ℕ
  pub unit : ℕ
  pub bool : ℕ
  pub exn : ℕ

-- the names in scope that are recorded, for an item and a number in it
abbrev pub Scopes : Type 0
Scopes = ℕ → ℕ → Option (List Entry)

-- what is in the first is in the second too
abbrev pub AreScopesIn : Scopes → Scopes → Type 0
AreScopesIn S T = (i p : ℕ) (env : List Entry) → S i p ≡ Some env → T i p ≡ Some env

-- the nodes of the types that are recorded, in the same way
abbrev pub Recorded : Type 0
Recorded = ℕ → ℕ → Option ℕ

-- what is in the first is in the second too
abbrev pub AreTypesIn : Recorded → Recorded → Type 0
AreTypesIn S T = (i p m : ℕ) → S i p ≡ Some m → T i p ≡ Some m

-- What typing works on: the nodes of types; the node of the type that is recorded for an item and a number in it, which an expression or a pattern has; for which of
-- them anything was noted, with a type or without, and the names in scope that were noted;
-- the nodes of the type variables written so far; what was reported; whether anything is reported and recorded; the item, and the level of new variables.
pub record Sight : Type 0 where
  pub nodes : List Node
  pub types : Recorded
  pub noted : ℕ → ℕ → Bool
  pub scopes : Scopes
  pub written : Name → Option ℕ
  pub reports : List Report
  pub aloud : Bool
  pub item : ℕ
  pub level : ℕ
  pub fixed : Fixed

-- the number of a node of an item, among those of all items
abbrev pub number_in : ℕ → ℕ → ℕ
number_in i p = i * 2 ^ 32 + p

-- what a choice chooses besides the types of recorded nodes: the type of a node whose row is being typed, a letter, what an unknown type stands for;
-- and one of these in which no unknown type stands, or which may be chosen in another row too
pub data Key : Type 0 where
  own : ℕ → Key
  letter : ℕ → ℕ → Key
  filled : ℕ → Path → Key
  without_unknown : Key → Key
  doubtful : Key → Key

-- the type that is chosen for it
abbrev pub value_of : Choice → Key → Typ
value_of ch (own n) = ch.type_at n
value_of ch (letter n k) = ch.letter n k
value_of ch (filled n o) = ch.filled n o
value_of ch (without_unknown key) = value_of ch key
value_of ch (doubtful key) = value_of ch key

-- nodes of the store that stand for them
abbrev pub Letters : Type 0
Letters = List (Key × ℕ)

-- no unknown type stands where a key says so
abbrev pub IsKnownFor : Key → Typ → Type 0
IsKnownFor (own n) t = Unit {0}
IsKnownFor (letter n k) t = Unit {0}
IsKnownFor (filled n o) t = Unit {0}
IsKnownFor (without_unknown key) t = IsKnown t
IsKnownFor (doubtful key) t = IsKnownFor key t

-- a choice has the type of a node for what the node stands for
pub record IsGiven (V : Types) (ch : Choice) (key : Key) (n : ℕ) : Type 0 where
  pub is : value_of ch key ≡ V n
  pub known : IsKnownFor key (V n)

-- a choice has the types of these nodes
abbrev pub AreGiven : Letters → Types → Choice → Type 0
AreGiven [] V ch = Unit {0}
AreGiven (x ∷ xs) V ch = IsGiven V ch x.0 x.1 × AreGiven xs V ch

-- these nodes are nodes of the store
abbrev pub AreNodes : Letters → List Node → Type 0
AreNodes [] nodes = Unit {0}
AreNodes (x ∷ xs) nodes = IsNode nodes x.1 × AreNodes xs nodes

-- A choice has the types of the nodes that are recorded, in which no unknown type stands, of the type variables written in the item `owner`, and of letters.
pub record Agrees (owner : ℕ) (a : Sight) (G : Letters) (V : Types) (ch : Choice) : Type 0 where
  pub recorded : (i p m : ℕ) → a.types i p ≡ Some m → ch.type_at (number_in i p) ≡ V m
  pub known : (i p m : ℕ) → a.types i p ≡ Some m → IsKnown (V m)
  pub written : (x : Name) (m : ℕ) → a.written x ≡ Some m → ch.written owner x ≡ V m
  pub given : AreGiven G V ch

-- what is recorded is a node of the store, and so are the nodes of written type variables and letters
pub record IsInside (a : Sight) (G : Letters) : Type 0 where
  pub recorded : (i p m : ℕ) → a.types i p ≡ Some m → IsNode a.nodes m
  pub written : (x : Name) (m : ℕ) → a.written x ≡ Some m → IsNode a.nodes m
  pub given : AreNodes G a.nodes

-- types that are the same at the nodes of a store
abbrev pub SameAt : List Node → Types → Types → Type 0
SameAt nodes V W = (n : ℕ) → n < length nodes → W n ≡ V n
