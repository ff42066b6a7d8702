-- What the calls on types do to the store.
use Rattle.std.specs.Prelude.{◌≡◌, ◌⊎◌, ℕ, ◌-◌, ◌^◌, min, List, [], ◌∷◌}
use Rattle.type_nodes.specs.Nodes.{Node, Var, IsNode}
use Rattle.type_nodes.specs.States.{State}
use Rattle.type_nodes.specs.Changes.{Makes}
use Rattle.level_unify.specs.Solutions.{HaveNoBound}
use Rattle.level_unify.specs.Unification.{Unified, NeverAlike}
use Rattle.typing_state.specs.declared.parts.Parts.{Parts}

-- the level of a new variable: at most the highest that isn't kept for bound ones
abbrev pub level_for : ℕ → ℕ
level_for level = min level (2 ^ 32 - 2)

-- the scope that limits nothing
abbrev pub any_scope : ℕ
any_scope = 2 ^ 64 - 1

-- a new variable of the present level and of a scope
abbrev pub MakesVar : Parts → Parts → ℕ → ℕ → Type 0
MakesVar old new n scope = Makes old.store new.store n (Var (level_for old.level) scope)

-- the origin of lists
abbrev pub list_path : List ℕ
list_path = (2 ^ 64 - 8) ∷ []

-- two nodes are one where no bound variable stands in them
abbrev pub MadeOne : (old new : List Node) → (a b : ℕ) → Type 0
MadeOne old new a b = HaveNoBound old a b → Unified old new a b

-- two nodes are one; or they never are, and the store is as before
abbrev pub Joined : (old new : State) → (a b : ℕ) → Type 0
Joined old new a b = MadeOne old.nodes new.nodes a b ⊎ ((new ≡ old) × (HaveNoBound old.nodes a b → NeverAlike old.nodes a b))

-- a number that is no node is joined with nothing
abbrev pub JoinedIfNodes : (old new : State) → (a b : ℕ) → Type 0
JoinedIfNodes old new a b = (IsNode old.nodes a → IsNode old.nodes b → Joined old new a b) × ((IsNode old.nodes a → IsNode old.nodes b → ⊥) → new ≡ old)
