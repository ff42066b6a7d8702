-- What is done to the scopes of variables: those of an instance become unknown types, and making nodes one keeps the least.
use Rattle.std.specs.Prelude.{◌≡◌, ◌≢◌, ◌⊎◌, ℕ, ◌<◌, ◌≤◌, true, List, length, map, slice_get, Some}
use Rattle.type_model.specs.Types.{occurs}
use Rattle.type_nodes.specs.Nodes.{Node, Var, bound_level}
use Rattle.type_nodes.specs.Links.{root}
use Rattle.type_nodes.specs.Readings.{Types}
use Rattle.level_unify.specs.Walks.{StandsIn}
use Rattle.typing_conditions.specs.Locals.{IsOwn}
use Rattle.typing_conditions.specs.Standing.{IsIn}

-- a free variable that stands in r and is none of the nodes ps
pub record IsOther (nodes : List Node) (r : ℕ) (ps : List ℕ) (n : ℕ) (c : Node) : Type 0 where
  pub level : ℕ
  pub scope : ℕ
  pub is : c ≡ Var level scope
  pub free : level ≢ bound_level
  pub stands : StandsIn nodes n r
  pub none : IsIn (map (root nodes) ps) n → ⊥

-- each free variable of r but for the nodes ps gets the scope of unknown types, and every other node is as before
pub record Opens (old new : List Node) (r : ℕ) (ps : List ℕ) : Type 0 where
  pub len : length new ≡ length old
  pub opens : (n : ℕ) (c : Node) → slice_get old n ≡ Some c → (x : IsOther old r ps n c) → slice_get new n ≡ Some (Var x.level 0)
  pub stays : (n : ℕ) (c : Node) → slice_get old n ≡ Some c → (IsOther old r ps n c → ⊥) → slice_get new n ≡ Some c
  pub roots : (m : ℕ) → root new m ≡ root old m

-- The scope of a free variable is the least of those of the free variables of before in whose types it stands.
pub record LeastScopes (old new : List Node) : Type 0 where
  pub bound : (J : Types) → IsOwn new J → (m l o v l' o' : ℕ) → slice_get old m ≡ Some (Var l o) → l ≢ bound_level → slice_get new v ≡ Some (Var l' o') → l' ≢ bound_level → occurs v (J m) ≡ true → o' ≤ o
  pub source : (J : Types) → IsOwn new J → (v l o : ℕ) → slice_get new v ≡ Some (Var l o) → l ≢ bound_level → (m : ℕ) × (k : ℕ) × (slice_get old m ≡ Some (Var k o)) × (k ≢ bound_level) × (occurs v (J m) ≡ true)

-- one node gets the scope of unknown types, where it is a free variable and none of the roots rs
pub record OpensOne (old new : List Node) (rs : List ℕ) (n : ℕ) : Type 0 where
  pub len : length new ≡ length old
  pub own : (l o : ℕ) → slice_get old n ≡ Some (Var l o) → l ≢ bound_level → (IsIn rs n → ⊥) → slice_get new n ≡ Some (Var l 0)
  pub not : (c : Node) → slice_get old n ≡ Some c → ((l o : ℕ) → c ≡ Var l o → l ≢ bound_level → (IsIn rs n → ⊥) → ⊥) → slice_get new n ≡ Some c
  pub others : (m : ℕ) → m ≢ n → slice_get new m ≡ slice_get old m
  pub roots : (m : ℕ) → root new m ≡ root old m

-- where that stands in r: the first nodes that were found are done
pub record OpensTo (old now : List Node) (r : ℕ) (ps found : List ℕ) (at : ℕ) : Type 0 where
  pub len : length now ≡ length old
  pub roots : (m : ℕ) → root now m ≡ root old m
  pub each : (n : ℕ) (c : Node) → slice_get old n ≡ Some c → (slice_get now n ≡ Some c) ⊎ ((x : IsOther old r ps n c) × (slice_get now n ≡ Some (Var x.level 0)))
  pub done : (k n : ℕ) (c : Node) → k < at → slice_get found k ≡ Some n → slice_get old n ≡ Some c → (x : IsOther old r ps n c) → slice_get now n ≡ Some (Var x.level 0)
