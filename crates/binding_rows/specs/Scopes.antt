-- What limiting types to the origins of a scope does to the state of typing, and when it can be done.
use Rattle.std.specs.Prelude.{◌≡◌, ◌⊎◌, ℕ, true, List, [], ◌∷◌, ◌++◌, slice_get, Some}
use Rattle.type_model.specs.Types.{Typ}
use Rattle.type_model.specs.Limits.{in_scope, IsInScope}
use Rattle.typing_model.specs.Demands.{Condition, made}
use Rattle.typing_model.specs.Contexts.{Choice}
use Rattle.type_nodes.specs.Nodes.{Node, Var, Rigid, Con, IsNode, IsSound}
use Rattle.type_nodes.specs.Readings.{Types, IsReading}
use Rattle.type_nodes.specs.States.{State}
use Rattle.type_nodes.specs.Changes.{Makes}
use Rattle.typing_state.specs.declared.parts.Parts.{Parts}
use Rattle.typing_state.specs.Goes.{OnlyStore, Goes}
use Rattle.typing_state.specs.Types.{level_for, MadeOne, Joined}
use Rattle.binding_rows.specs.Closing.{Limit, limit_nodes}
use Rattle.binding_rows.specs.Lets.{ToClose, bind_nodes, names_closed}

-- one type is limited to a level and to the origins of a scope
pub record ScopesOne (a b : Parts) (level scope : ℕ) (l : Limit) : Type 0 where
  pub mid : State
  pub makes : Makes a.store mid l.variable (Var (level_for level) scope)
  pub joins : IsNode mid.nodes l.variable → IsNode mid.nodes l.node → Joined mid b.store l.variable l.node
  pub rest : OnlyStore a b
  pub goes : Goes a b
  pub sound : IsSound b.store.nodes

-- types are limited to a level and a scope, one after the other
abbrev pub ScopesAll : Parts → Parts → ℕ → ℕ → List Limit → Type 0
ScopesAll a b level scope [] = b ≡ a
ScopesAll a b level scope (l ∷ ls) = (c : Parts) × ScopesOne a c level scope l × ScopesAll c b level scope ls

-- the same, where each type was made one with its new variable: its origins are in the scope
abbrev pub InsideAll : Parts → Parts → ℕ → ℕ → List Limit → Type 0
InsideAll a b level scope [] = b ≡ a
InsideAll a b level scope (l ∷ ls) = (c : Parts) × (one : ScopesOne a c level scope l) × MadeOne one.mid.nodes c.store.nodes l.variable l.node × InsideAll c b level scope ls

-- the types of these nodes are limited to a level and a scope
pub record ScopesNodes (a b : Parts) (level scope : ℕ) (ms : List ℕ) : Type 0 where
  pub limits : List Limit
  pub all : ScopesAll a b level scope limits
  pub nodes : limit_nodes limits ≡ ms

-- some reading gives these nodes types whose origins are in the scope
pub record CanBeMade (nodes : List Node) (scope : ℕ) (ms : List ℕ) : Type 0 where
  pub types : Types
  pub reads : IsReading nodes types
  pub made : (k m : ℕ) → slice_get ms k ≡ Some m → IsInScope scope (types m)

-- no reading gives a node a type whose origins are in the scope
pub record NeverMade (nodes : List Node) (scope m : ℕ) : Type 0 where
  pub never : (V : Types) → IsReading nodes V → IsInScope scope (V m) → ⊥

-- the origins of all constructors of a store are in the scope, and no variable of it is rigid
pub record AllInScope (nodes : List Node) (scope : ℕ) : Type 0 where
  pub each : (n : ℕ) (path name ms : List ℕ) → slice_get nodes n ≡ Some (Con path name ms) → in_scope scope path ≡ true
  pub none_rigid : (n : ℕ) → slice_get nodes n ≡ Some Rigid → ⊥

-- the types of these nodes are limited and made one with their variables
pub record InsideNodes (a b : Parts) (level scope : ℕ) (ms : List ℕ) : Type 0 where
  pub limits : List Limit
  pub all : InsideAll a b level scope limits
  pub nodes : limit_nodes limits ≡ ms

-- the types of these nodes are limited, and their origins are in the scope: the calls found so, or some reading shows it
abbrev pub AreMade : (a b : Parts) (level scope : ℕ) (ms : List ℕ) → Type 0
AreMade a b level scope ms = InsideNodes a b level scope ms ⊎ (ScopesNodes a b level scope ms × CanBeMade a.store.nodes scope ms)

-- the conditions that the types of these choices were made before a node
abbrev pub all_made : ℕ → Choice → List (Choice → Typ) → List Condition
all_made n ch [] = []
all_made n ch (t ∷ ts) = made n (t ch) ∷ all_made n ch ts

-- something was done with the names' nodes of the first of some bindings, and some are left
pub record NamesFirst (R : List ℕ → Type 0) (all left : List ToClose) : Type 0 where
  pub done : List ℕ
  pub does : R done
  pub splits : bind_nodes (names_closed all) ≡ done ++ bind_nodes (names_closed left)
