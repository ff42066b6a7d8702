-- Levels and scopes: what the variables of a store allow, and what lowering them does.
use Rattle.std.specs.Prelude.{◌≡◌, ◌≢◌, ◌⊎◌, ℕ, ◌<◌, ◌≤◌, ◌==◌, ◌-◌, min, max, Bool, true, false, List, length, map, nat_eq, slice_get, Some, if◌then◌else◌}
use Rattle.type_model.specs.Limits.{in_scope, no_scope, IsUnder}
use Rattle.type_nodes.specs.Nodes.{Node, Var, Rigid, Link, Arrow, Tuple, Con, bound_level, IsClosed}
use Rattle.type_nodes.specs.Readings.{Types}
use Rattle.level_unify.specs.declared.limits.Asked.{Asked}
use Rattle.level_unify.specs.declared.limits.Asked.TheVariants.{Lower, Nothing, OutOfScope}
use Rattle.std.specs.HashSet.{contains}
use Rattle.level_unify.specs.declared.limits.Low.{Low}
use Rattle.level_unify.specs.declared.limits.Pass.{Pass}
use Rattle.level_unify.specs.declared.solve.Limit.{Limit}
use Rattle.level_unify.specs.declared.limits.Pass.TheVariants.{Levels, Scopes}
use Rattle.level_unify.specs.Plans.{IsFreeVar}
use Rattle.level_unify.specs.Solutions.{Loose, Cap, IsListed, HaveNoBound}
use Rattle.level_unify.specs.Walks.{StandsIn, IsCleared}

-- Where the variables of types have the levels L: types that fit every node, and the limit of each free variable.
pub record FitsUnder (L : ℕ → ℕ) (nodes : List Node) (V : Types) : Type 0 where
  pub loose : Loose nodes V
  pub under : (n level scope : ℕ) → slice_get nodes n ≡ Some (Var level scope) → level ≢ bound_level → IsUnder L level scope (V n)

-- the types of variables that were bound keep their limits
abbrev pub KeepCaps : (ℕ → ℕ) → Types → List Cap → Type 0
KeepCaps L V caps = (x : Cap) → IsListed caps x → IsUnder L x.1 x.2 (V x.0)

-- a free variable with the lower one of its own limit and another
abbrev pub lowered : ℕ → ℕ → Node → Node
lowered level scope (Var l o) = if l == bound_level then Var l o else Var (min l level) (min o scope)
lowered level scope Rigid = Rigid
lowered level scope (Link m) = Link m
lowered level scope (Arrow a b) = Arrow a b
lowered level scope (Tuple ms) = Tuple ms
lowered level scope (Con path name ms) = Con path name ms

-- a node may stand in a type of this scope
abbrev pub IsAllowed : ℕ → Node → Type 0
IsAllowed scope (Var l o) = Unit {0}
IsAllowed scope Rigid = no_scope ≤ scope
IsAllowed scope (Link m) = Unit {0}
IsAllowed scope (Arrow a b) = Unit {0}
IsAllowed scope (Tuple ms) = Unit {0}
IsAllowed scope (Con path name ms) = in_scope scope path ≡ true

-- a variable's level and scope are at most those that limit nothing
abbrev pub IsSmall : Node → Type 0
IsSmall (Var l o) = (l ≤ bound_level) × (o ≤ no_scope)
IsSmall Rigid = Unit {0}
IsSmall (Link m) = Unit {0}
IsSmall (Arrow a b) = Unit {0}
IsSmall (Tuple ms) = Unit {0}
IsSmall (Con path name ms) = Unit {0}

-- what a limit asks of a node
abbrev pub Asks : ℕ → ℕ → Node → Asked → Type 0
Asks level scope c (Lower l o) = IsFreeVar c × (lowered level scope c ≡ Var l o) × (l < bound_level)
Asks level scope c Nothing = (lowered level scope c ≡ c) × IsAllowed scope c
Asks level scope c OutOfScope = IsAllowed scope c → ⊥

-- one node was lowered
pub record LoweredOne (old new : List Node) (level scope n : ℕ) : Type 0 where
  pub len : length new ≡ length old
  pub own : (c : Node) → slice_get old n ≡ Some c → (slice_get new n ≡ Some (lowered level scope c)) × IsAllowed scope c
  pub small : (c : Node) → slice_get old n ≡ Some c → IsSmall c
  pub others : (m : ℕ) → m ≢ n → slice_get new m ≡ slice_get old m

-- the same node, but for the limit of a free variable, which stays one
abbrev pub SameButLimit : Node → Node → Type 0
SameButLimit (Var l o) d = (l' : ℕ) × (o' : ℕ) × (d ≡ Var l' o') × (l ≡ bound_level → (l' ≡ l) × (o' ≡ o)) × (l ≢ bound_level → l' ≢ bound_level)
SameButLimit Rigid d = d ≡ Rigid
SameButLimit (Link m) d = d ≡ Link m
SameButLimit (Arrow a b) d = d ≡ Arrow a b
SameButLimit (Tuple ms) d = d ≡ Tuple ms
SameButLimit (Con path name ms) d = d ≡ Con path name ms

-- the same nodes, each but for the limit of a free variable
pub record SameButLimits (old new : List Node) : Type 0 where
  pub len : length new ≡ length old
  pub each : (n : ℕ) (c : Node) → slice_get old n ≡ Some c → (d : Node) × (slice_get new n ≡ Some d) × SameButLimit c d

-- only nodes with small levels and scopes change
abbrev pub ChangesSmall : List Node → List Node → Type 0
ChangesSmall old new = (n : ℕ) (c : Node) → slice_get old n ≡ Some c → (slice_get new n ≡ Some c) ⊎ IsSmall c

-- where lowering stands: the first nodes that were found are lowered, and only what stands in the variable
pub record Lowered (old new : List Node) (level scope v : ℕ) (found : List ℕ) (at : ℕ) : Type 0 where
  pub len : length new ≡ length old
  pub each : (n : ℕ) (c : Node) → slice_get old n ≡ Some c → (slice_get new n ≡ Some c) ⊎ ((slice_get new n ≡ Some (lowered level scope c)) × StandsIn old n v)
  pub small : ChangesSmall old new
  pub done : (k n : ℕ) (c : Node) → k < at → slice_get found k ≡ Some n → slice_get old n ≡ Some c → (slice_get new n ≡ Some (lowered level scope c)) × IsAllowed scope c

-- a set of roots, with the roots of their parts, in which all is lowered already
pub record AreLow (nodes : List Node) (level scope : ℕ) (D : ℕ → Bool) : Type 0 where
  pub cleared : IsCleared nodes D
  pub low : (n : ℕ) (c : Node) → D n ≡ true → slice_get nodes n ≡ Some c → (lowered level scope c ≡ c) × IsAllowed scope c

-- a free variable after lowering: it has the lower limits where it stands in the variable that was bound, and else its own
pub record LoweredVar (old : List Node) (x : Cap) (n level scope : ℕ) : Type 0 where
  pub own_level : ℕ
  pub own_scope : ℕ
  pub was : slice_get old n ≡ Some (Var own_level own_scope)
  pub now : (StandsIn old n x.0 × (level ≡ min own_level x.1) × (scope ≡ min own_scope x.2)) ⊎ ((StandsIn old n x.0 → (own_level ≤ x.1) × (own_scope ≤ x.2)) × (level ≡ own_level) × (scope ≡ own_scope))

-- a level or a scope is the least of a variable's own and of those, among the first limits, of the variables that it stands in
pub record LeastOf (old : List Node) (caps : List Cap) (at n own value : ℕ) (of : Cap → ℕ) : Type 0 where
  pub own_bound : value ≤ own
  pub bound : (k : ℕ) (x : Cap) → k < at → slice_get caps k ≡ Some x → StandsIn old n x.0 → value ≤ of x
  pub source : (value ≡ own) ⊎ ((x : Cap) × IsListed caps x × StandsIn old n x.0 × (value ≡ of x))

-- a free variable whose level and scope are the least that its own and the first limits allow
pub record LeastLimits (old : List Node) (caps : List Cap) (at n level scope : ℕ) : Type 0 where
  pub own_level : ℕ
  pub own_scope : ℕ
  pub was : slice_get old n ≡ Some (Var own_level own_scope)
  pub free : own_level ≢ bound_level
  pub level_least : LeastOf old caps at n own_level level (λ x. x.1)
  pub scope_least : LeastOf old caps at n own_scope scope (λ x. x.2)

-- the types that fit after it are those from before that keep to the limit of a variable that was bound, and only what stands in
-- the variable changes
pub record Capped (old new : List Node) (x : Cap) : Type 0 where
  pub same : SameButLimits old new
  pub forth : (L : ℕ → ℕ) (V : Types) → FitsUnder L old V → IsUnder L x.1 x.2 (V x.0) → FitsUnder L new V
  pub back : HaveNoBound old x.0 x.0 → (L : ℕ → ℕ) (V : Types) → FitsUnder L new V → FitsUnder L old V × IsUnder L x.1 x.2 (V x.0)
  pub least : (n level scope : ℕ) → slice_get new n ≡ Some (Var level scope) → level ≢ bound_level → LoweredVar old x n level scope
  pub small : ChangesSmall old new
  pub outside : (F : ℕ → Bool) → IsClosed old F → F x.0 ≡ true → (n : ℕ) → F n ≡ false → slice_get new n ≡ slice_get old n

-- the same with the first limits of a list
pub record CappedTo (old new : List Node) (caps : List Cap) (at : ℕ) : Type 0 where
  pub same : SameButLimits old new
  pub forth : (L : ℕ → ℕ) (V : Types) → FitsUnder L old V → KeepCaps L V caps → FitsUnder L new V
  pub back : ((x : Cap) → IsListed caps x → HaveNoBound old x.0 x.0) → (L : ℕ → ℕ) (V : Types) → FitsUnder L new V →
      FitsUnder L old V × ((k : ℕ) (x : Cap) → k < at → slice_get caps k ≡ Some x → IsUnder L x.1 x.2 (V x.0))
  pub least : (n level scope : ℕ) → slice_get new n ≡ Some (Var level scope) → level ≢ bound_level → LeastLimits old caps at n level scope
  pub small : ChangesSmall old new
  pub outside : (F : ℕ → Bool) → IsClosed old F → ((x : Cap) → IsListed caps x → F x.0 ≡ true) → (n : ℕ) → F n ≡ false → slice_get new n ≡ slice_get old n

-- the level below that of bound variables
abbrev pub highest_level : ℕ
highest_level = bound_level - 1

-- a limit in one pass: what the pass doesn't lower limits nothing
abbrev pub cap_in : Pass → Cap → Cap
cap_in Levels x = (x.0, x.1, max x.2 no_scope)
cap_in Scopes x = (x.0, max x.1 highest_level, x.2)

-- the limits in one pass
abbrev pub caps_in : Pass → List Cap → List Cap
caps_in pass caps = map (cap_in pass) caps

-- the number that a pass lowers to
abbrev pub number_in : Pass → Limit → ℕ
number_in Levels l = l.level
number_in Scopes l = l.scope

-- the roots that are low
abbrev pub low_in : Low → ℕ → Bool
low_in low = contains nat_eq low.roots

-- nothing that fits keeps to the limits
pub record NeverCapped (nodes : List Node) (caps : List Cap) : Type 0 where
  pub never : (L : ℕ → ℕ) (V : Types) → FitsUnder L nodes V → KeepCaps L V caps → ⊥
