-- Generalisation by level (Rémy 1992): what it binds.
use Rattle.std.specs.Prelude.{◌≡◌, ◌≢◌, ◌⊎◌, ℕ, ◌<◌, List, length, slice_get, Some}
use Rattle.type_nodes.specs.Nodes.{Node, Var, Rigid, Link, Arrow, Tuple, Con, bound_level}
use Rattle.type_nodes.specs.Links.{root}
use Rattle.level_unify.specs.Walks.{StandsIn}

-- a free variable above a level
abbrev pub IsAbove : ℕ → Node → Type 0
IsAbove level (Var l scope) = (l ≢ bound_level) × (level < l)
IsAbove level Rigid = ⊥
IsAbove level (Link m) = ⊥
IsAbove level (Arrow a b) = ⊥
IsAbove level (Tuple ms) = ⊥
IsAbove level (Con path name ms) = ⊥

-- a variable once it is bound; it keeps its scope
abbrev pub bound_of : Node → Node
bound_of (Var l scope) = Var bound_level scope
bound_of Rigid = Rigid
bound_of (Link m) = Link m
bound_of (Arrow a b) = Arrow a b
bound_of (Tuple ms) = Tuple ms
bound_of (Con path name ms) = Con path name ms

-- the free variables above the level that stand in r are bound, and every other node is as before
pub record Generalised (old new : List Node) (r level : ℕ) : Type 0 where
  pub len : length new ≡ length old
  pub binds : (n : ℕ) (c : Node) → slice_get old n ≡ Some c → IsAbove level c → StandsIn old n r → slice_get new n ≡ Some (bound_of c)
  pub stays : (n : ℕ) (c : Node) → slice_get old n ≡ Some c → (IsAbove level c → StandsIn old n r → ⊥) → slice_get new n ≡ Some c

-- one node is bound, where it is a free variable above the level
pub record BoundOne (old new : List Node) (level n : ℕ) : Type 0 where
  pub len : length new ≡ length old
  pub own : (c : Node) → slice_get old n ≡ Some c → IsAbove level c → slice_get new n ≡ Some (bound_of c)
  pub not : (c : Node) → slice_get old n ≡ Some c → (IsAbove level c → ⊥) → slice_get new n ≡ Some c
  pub others : (m : ℕ) → m ≢ n → slice_get new m ≡ slice_get old m
  pub roots : (m : ℕ) → root new m ≡ root old m

-- where generalisation stands: the first nodes that were found are bound, where they are above the level
pub record BoundTo (old now : List Node) (r level : ℕ) (found : List ℕ) (at : ℕ) : Type 0 where
  pub len : length now ≡ length old
  pub roots : (m : ℕ) → root now m ≡ root old m
  pub each : (n : ℕ) (c : Node) → slice_get old n ≡ Some c → (slice_get now n ≡ Some c) ⊎ (IsAbove level c × StandsIn old n r × (slice_get now n ≡ Some (bound_of c)))
  pub done : (k n : ℕ) (c : Node) → k < at → slice_get found k ≡ Some n → slice_get old n ≡ Some c → IsAbove level c → slice_get now n ≡ Some (bound_of c)
