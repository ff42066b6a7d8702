-- What closing a group of bindings does to the state of typing: types are limited to a level, and then those of names are generalised.
use Rattle.std.specs.Prelude.{◌≡◌, ℕ, ◌-◌, List, [], ◌∷◌}
use Rattle.type_nodes.specs.Nodes.{Node, Var, IsNode, IsSound}
use Rattle.type_nodes.specs.Readings.{Types}
use Rattle.type_nodes.specs.States.{State}
use Rattle.type_nodes.specs.Changes.{Makes}
use Rattle.level_unify.specs.Generalising.{Generalised}
use Rattle.level_unify.specs.Solutions.{Loose}
use Rattle.typing_state.specs.declared.parts.Parts.{Parts}
use Rattle.typing_state.specs.Goes.{OnlyStore, Goes}
use Rattle.typing_state.specs.Types.{level_for, any_scope, JoinedIfNodes}
use Rattle.typing_conditions.specs.Locals.{IsOwn, IsContext}

-- a type that is limited: its node, and the new variable that is made one with it
pub record Limit : Type 0 where
  pub node : ℕ
  pub variable : ℕ

-- the nodes of limits
abbrev pub limit_nodes : List Limit → List ℕ
limit_nodes [] = []
limit_nodes (l ∷ ls) = l.node ∷ limit_nodes ls

-- and their variables
abbrev pub limit_variables : List Limit → List ℕ
limit_variables [] = []
limit_variables (l ∷ ls) = l.variable ∷ limit_variables ls

-- one type is limited to a level, by any scope
pub record LimitsOne (a b : Parts) (level : ℕ) (l : Limit) : Type 0 where
  pub mid : State
  pub makes : Makes a.store mid l.variable (Var (level_for level) any_scope)
  pub joins : JoinedIfNodes mid b.store l.variable l.node
  pub rest : OnlyStore a b
  pub goes : Goes a b
  pub sound : IsSound b.store.nodes

-- types are limited, one after the other
abbrev pub LimitsAll : Parts → Parts → ℕ → List Limit → Type 0
LimitsAll a b level [] = b ≡ a
LimitsAll a b level (l ∷ ls) = (c : Parts) × LimitsOne a c level l × LimitsAll c b level ls

-- the types of these nodes are limited
pub record LimitsNodes (a b : Parts) (level : ℕ) (ms : List ℕ) : Type 0 where
  pub limits : List Limit
  pub all : LimitsAll a b level limits
  pub nodes : limit_nodes limits ≡ ms

-- one type is generalised at the present level
pub record GeneralisesOne (a b : Parts) (n : ℕ) : Type 0 where
  pub bound : IsNode a.store.nodes n → Generalised a.store.nodes b.store.nodes n a.level
  pub rest : OnlyStore a b

-- types are generalised, one after the other
abbrev pub GeneralisesAll : Parts → Parts → List ℕ → Type 0
GeneralisesAll a b [] = b ≡ a
GeneralisesAll a b (n ∷ ns) = (c : Parts) × GeneralisesOne a c n × GeneralisesAll c b ns

-- the close of a group: the level is one less, types are limited to it, and the types of names are generalised
pub record ClosesGroup (a d : Parts) (limits : List Limit) (names : List ℕ) : Type 0 where
  pub lowered : Parts
  pub lowers : lowered ≡ record a { level = a.level - 1 }
  pub limited : Parts
  pub limits_all : LimitsAll lowered limited lowered.level limits
  pub generalises_all : GeneralisesAll limited d names
  pub sound : IsSound d.store.nodes

-- the variable of a limit has the type of its node, and what stands in it is of at most the limit's level
pub record IsLimited (nodes : List Node) (level : ℕ) (l : Limit) : Type 0 where
  pub same : (V : Types) → Loose nodes V → V l.variable ≡ V l.node
  pub low : (K : Types) → IsOwn nodes K → IsContext nodes K (l.variable ∷ []) level

-- the same of each limit
abbrev pub AreLimited : List Node → ℕ → List Limit → Type 0
AreLimited nodes level [] = Unit {0}
AreLimited nodes level (l ∷ ls) = IsLimited nodes level l × AreLimited nodes level ls
