-- When a scheme has all instances of another, on the store (Leroy 2000, A modular module system, for specifications of values).
use Rattle.std.specs.Prelude.{◌≡◌, ◌≢◌, ℕ, ◌<◌, ◌^◌, Bool, true, false, List, ◌∷◌, slice_get, Some}
use Rattle.type_model.specs.Types.{Path, Typ}
use Rattle.type_model.specs.Schemes.{Scheme, HasInstance}
use Rattle.type_model.specs.Limits.{no_scope}
use Rattle.type_nodes.specs.Nodes.{Node, Var, Con, bound_level}
use Rattle.type_nodes.specs.Readings.{Types, IsReading}
use Rattle.level_unify.specs.Walks.{StandsIn}
use Rattle.level_unify.specs.Instances.{scheme_at, SameTypes}
use Rattle.level_unify.specs.Unification.{Unified, NeverAlike}
use Rattle.level_unify.specs.Instances.{Instantiated, Frozen}

-- each instance of the wanted scheme is one of the actual scheme
pub record Covers (actual wanted : Scheme) : Type 0 where
  pub each : (x : Typ) → HasInstance wanted x → HasInstance actual x

-- n's root's scheme covers m's at a reading
abbrev pub CoversAt : List Node → Types → ℕ → ℕ → Type 0
CoversAt nodes V n m = Covers (scheme_at nodes V n) (scheme_at nodes V m)

-- a path of an origin, which doesn't begin as that of a rigid variable
abbrev pub IsOrigin : Path → Type 0
IsOrigin path = (rest : Path) → path ≢ (2 ^ 64) ∷ rest

-- no rigid variable can come to stand in n's type: each free variable in it has a scope, and each constructor has an origin
pub record KeepsOutRigid (nodes : List Node) (n : ℕ) : Type 0 where
  pub scopes : (v level scope : ℕ) → StandsIn nodes v n → slice_get nodes v ≡ Some (Var level scope) → level ≢ bound_level → scope < no_scope
  pub origins : (v : ℕ) (path name ms : List ℕ) → StandsIn nodes v n → slice_get nodes v ≡ Some (Con path name ms) → IsOrigin path

-- the readings are exactly those from before at which n's scheme covers m's, with types for the nodes that were made
pub record Met (old new : List Node) (n m : ℕ) : Type 0 where
  pub reads : (V : Types) → IsReading new V → IsReading old V × CoversAt old V n m
  pub read : (V : Types) → IsReading old V → CoversAt old V n m → (W : Types) × IsReading new W × SameTypes old V W

-- at no reading does n's scheme cover m's
pub record NeverCovers (nodes : List Node) (n m : ℕ) : Type 0 where
  pub never : (V : Types) → IsReading nodes V → CoversAt nodes V n m → ⊥

-- what is left of the readings after a match, or that there is none
abbrev pub Compared : (old new : List Node) → (n m : ℕ) → Bool → Type 0
Compared old new n m true = Met old new n m
Compared old new n m false = NeverCovers old n m

-- an instance of n and a rigid instance of m were made one, or no reading gives them one type
pub record Tried (old new : List Node) (n m level : ℕ) (met : Bool) : Type 0 where
  pub frozen : List Node
  pub both : List Node
  pub instance : ℕ
  pub rigid : ℕ
  pub freezes : Frozen old frozen m rigid
  pub makes : Instantiated frozen both n level instance
  pub one : met ≡ true → Unified both new instance rigid
  pub never : met ≡ false → NeverAlike both instance rigid
