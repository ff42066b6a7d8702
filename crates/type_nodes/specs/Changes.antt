-- What each call does to a store.
use Rattle.std.specs.Prelude.{◌≡◌, ◌≢◌, ℕ, ◌<◌, [], ◌∷◌, ◌++◌, length, slice_get, slice_set, Some}
use Rattle.type_nodes.specs.Nodes.{Node, Var, Link, bound_level}
use Rattle.type_nodes.specs.Links.{root, reading}
use Rattle.type_nodes.specs.States.{State, Made, Was}

-- one node more, by one write
pub record Added (old new : State) (n : ℕ) (c : Node) : Type 0 where
  pub number : n ≡ length old.nodes
  pub nodes : new.nodes ≡ old.nodes ++ c ∷ []
  pub trail : new.trail ≡ old.trail ++ Made ∷ []

-- another node at a number, by one write
pub record Replaced (old new : State) (n : ℕ) (c : Node) : Type 0 where
  pub before : Node
  pub was : slice_get old.nodes n ≡ Some before
  pub nodes : new.nodes ≡ slice_set old.nodes n c
  pub trail : new.trail ≡ old.trail ++ Was n before ∷ []

-- a new node reads as c, and every node from before reads as before
pub record Makes (old new : State) (n : ℕ) (c : Node) : Type 0 where
  pub added : Added old new n c
  pub own : root new.nodes n ≡ n
  pub reads : reading new.nodes n ≡ Some c
  pub others : (m : ℕ) → m < length old.nodes → root new.nodes m ≡ root old.nodes m
  pub others_read : (m : ℕ) → m < length old.nodes → reading new.nodes m ≡ reading old.nodes m

-- a and the nodes linked to it read as b, and every other node reads as before
pub record Redirects (old new : State) (a b : ℕ) : Type 0 where
  pub written : Replaced old new (root old.nodes a) (Link (root old.nodes b))
  pub ends : (m : ℕ) → m < length old.nodes → root old.nodes m ≡ root old.nodes a → root new.nodes m ≡ root old.nodes b
  pub reads : (m : ℕ) → m < length old.nodes → root old.nodes m ≡ root old.nodes a → reading new.nodes m ≡ reading old.nodes b
  pub others : (m : ℕ) → m < length old.nodes → root old.nodes m ≢ root old.nodes a → root new.nodes m ≡ root old.nodes m
  pub others_read : (m : ℕ) → m < length old.nodes → root old.nodes m ≢ root old.nodes a → reading new.nodes m ≡ reading old.nodes m

-- the variable v and the nodes linked to it have this level and scope, and every other node reads as before
pub record Relevels (old new : State) (v level scope : ℕ) : Type 0 where
  pub written : Replaced old new (root old.nodes v) (Var level scope)
  pub ends : (m : ℕ) → root new.nodes m ≡ root old.nodes m
  pub reads : (m : ℕ) → m < length old.nodes → root old.nodes m ≡ root old.nodes v → reading new.nodes m ≡ Some (Var level scope)
  pub others_read : (m : ℕ) → root old.nodes m ≢ root old.nodes v → reading new.nodes m ≡ reading old.nodes m

-- the variable v is bound, and keeps its scope
pub record Quantifies (old new : State) (v : ℕ) : Type 0 where
  pub level : ℕ
  pub scope : ℕ
  pub was : reading old.nodes v ≡ Some (Var level scope)
  pub bound : Relevels old new v bound_level scope
