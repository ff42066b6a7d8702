-- What unification answers.
use Rattle.std.specs.Prelude.{◌≡◌, ◌≢◌, ◌⊎◌, ◌≤◌, ℕ, Bool, true, false, List, length, slice_get, Some}
use Rattle.type_model.specs.Types.{occurs}
use Rattle.type_model.specs.Types.{Typ as type}
use Rattle.type_terms.specs.declared.types.NodeRef.{NodeRef}
use Rattle.type_nodes.specs.Nodes.{Node, Var, bound_level, IsClosed, IsSound}
use Rattle.type_nodes.specs.Links.{root, IsFree}
use Rattle.type_nodes.specs.Readings.{Types, IsReading}
use Rattle.level_unify.specs.declared.fault.ClashKind.{ClashKind}
use Rattle.level_unify.specs.declared.fault.ClashKind.TheVariants.{Shape, Cycle, Scope}
use Rattle.level_unify.specs.declared.fault.Clash.{Clash}
use Rattle.level_unify.specs.declared.unifying.Failure.{Failure}
use Rattle.level_unify.specs.declared.unifying.Failure.TheVariants.{NotOne, OutOfScope}
use Rattle.level_unify.specs.Walks.{StandsIn}
use Rattle.level_unify.specs.Solutions.{Loose}
use Rattle.level_unify.specs.Limits.{FitsUnder}

-- no reading gives both nodes one type
pub record NeverAlike (nodes : List Node) (a b : ℕ) : Type 0 where
  pub never : (V : Types) → IsReading nodes V → V a ≡ V b → ⊥

-- a reading once the scope of every free variable is taken as the one that limits nothing
pub record IsUnscopedReading (nodes : List Node) (V : Types) : Type 0 where
  pub loose : Loose nodes V
  pub own : (n scope : ℕ) → slice_get nodes n ≡ Some (Var bound_level scope) → V n ≡ type.Var n
  pub apart : (n level scope b scope' : ℕ) → slice_get nodes n ≡ Some (Var level scope) → level ≢ bound_level →
      slice_get nodes b ≡ Some (Var bound_level scope') → occurs b (V n) ≡ false

-- a reads as a free variable that stands in b and isn't b
abbrev pub IsInside : List Node → ℕ → ℕ → Type 0
IsInside nodes a b = IsFree nodes a × (root nodes a ≢ root nodes b) × StandsIn nodes (root nodes a) b

-- one of two nodes is a free variable that stands in the other, so no type is theirs
abbrev pub IsCyclic : List Node → ℕ → ℕ → Type 0
IsCyclic nodes a b = IsInside nodes a b ⊎ IsInside nodes b a

-- only the scopes keep the two nodes apart
abbrev pub IsAlikeUnscoped : List Node → ℕ → ℕ → Type 0
IsAlikeUnscoped nodes a b = (V : Types) × IsUnscopedReading nodes V × (V a ≡ V b)

-- the kind of a clash
abbrev pub HasKind : List Node → ℕ → ℕ → ClashKind → Type 0
HasKind nodes a b Cycle = IsCyclic nodes a b × (IsAlikeUnscoped nodes a b → ⊥)
HasKind nodes a b Scope = (IsCyclic nodes a b → ⊥) × IsAlikeUnscoped nodes a b
HasKind nodes a b Shape = (IsCyclic nodes a b → ⊥) × (IsAlikeUnscoped nodes a b → ⊥)

-- a failure gives a clash this kind
abbrev pub HasCause : List Node → ℕ → ℕ → Failure → ClashKind → Type 0
HasCause nodes a b failure Cycle = (failure ≡ NotOne) × IsSound nodes × IsCyclic nodes a b
HasCause nodes a b failure Scope = failure ≡ OutOfScope
HasCause nodes a b failure Shape = (failure ≡ NotOne) × (IsCyclic nodes a b → ⊥)

-- a clash: the two given nodes, which no reading gives one type, and its kind
pub record Clashes (nodes : List Node) (a b : NodeRef) (clash : Clash) : Type 0 where
  pub left : clash.left ≡ a
  pub right : clash.right ≡ b
  pub never : NeverAlike nodes a.0 b.0
  pub kind : HasKind nodes a.0 b.0 clash.kind

-- a number is the least one of the free variables in whose types n now occurs
pub record IsLeast (old new : List Node) (n value : ℕ) (of : ℕ → ℕ → ℕ) : Type 0 where
  pub bound : (m level scope : ℕ) → slice_get old m ≡ Some (Var level scope) → level ≢ bound_level → StandsIn new n m → value ≤ of level scope
  pub source : (m : ℕ) × (level : ℕ) × (scope : ℕ) × (slice_get old m ≡ Some (Var level scope)) × (level ≢ bound_level) × StandsIn new n m × (value ≡ of level scope)

-- Only what a and b lead to changes: nodes outside a set that has both of them and the parts of its nodes are as before, and so is
-- each bound variable.
pub record ChangesWithin (old new : List Node) (a b : ℕ) : Type 0 where
  pub outside : (F : ℕ → Bool) → IsClosed old F → F a ≡ true → F b ≡ true → (n : ℕ) → F n ≡ false → slice_get new n ≡ slice_get old n
  pub bound : (n scope : ℕ) → slice_get old n ≡ Some (Var bound_level scope) → slice_get new n ≡ Some (Var bound_level scope)

-- Two nodes were made one (Robinson 1965; levels by Rémy 1992): the readings, and the types that keep to the
-- levels and scopes of the free variables, are exactly those from before that give both nodes one type. Only what the two nodes
-- lead to changes, and it leads to nothing else then.
pub record Unified (old new : List Node) (a b : ℕ) : Type 0 where
  pub len : length new ≡ length old
  pub reads : (V : Types) → IsReading old V → V a ≡ V b → IsReading new V
  pub read : (V : Types) → IsReading new V → IsReading old V × (V a ≡ V b)
  pub fits : (L : ℕ → ℕ) (V : Types) → FitsUnder L old V → V a ≡ V b → FitsUnder L new V
  pub fitted : (L : ℕ → ℕ) (V : Types) → FitsUnder L new V → FitsUnder L old V × (V a ≡ V b)
  pub level_least : (n level scope : ℕ) → slice_get new n ≡ Some (Var level scope) → level ≢ bound_level → IsLeast old new n level (λ l o. l)
  pub scope_least : (n level scope : ℕ) → slice_get new n ≡ Some (Var level scope) → level ≢ bound_level → IsLeast old new n scope (λ l o. o)
  pub closed : (F : ℕ → Bool) → IsClosed old F → F a ≡ true → F b ≡ true → IsClosed new F
  pub outside : (F : ℕ → Bool) → IsClosed old F → F a ≡ true → F b ≡ true → (n : ℕ) → F n ≡ false → slice_get new n ≡ slice_get old n
  pub bound : (n scope : ℕ) → slice_get old n ≡ Some (Var bound_level scope) → slice_get new n ≡ Some (Var bound_level scope)
  pub still : (n level scope : ℕ) → slice_get new n ≡ Some (Var level scope) → (l : ℕ) × (o : ℕ) × (slice_get old n ≡ Some (Var l o)) × (l ≡ bound_level → level ≡ bound_level) × (l ≢ bound_level → level ≢ bound_level)
