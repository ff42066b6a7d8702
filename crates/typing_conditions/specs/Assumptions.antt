-- When a root of the store stands for a scheme of the definitions: by the uses of the scheme, so that its own variables may have any names.
use Rattle.std.specs.Prelude.{◌≡◌, ℕ, ◌<◌, true, false, List, length}
use Rattle.type_model.specs.Types.{Typ, occurs}
use Rattle.type_model.specs.Types.{Typ as type}
use Rattle.type_model.specs.Substitutions.{Subst, apply}
use Rattle.type_model.specs.Schemes.{Scheme, free_in_scheme}
use Rattle.typing_model.specs.Demands.{IsUse}
use Rattle.type_nodes.specs.Nodes.{Node}
use Rattle.type_nodes.specs.Readings.{Types}
use Rattle.level_unify.specs.Walks.{StandsIn}
use Rattle.level_unify.specs.Instances.{is_bound, IsVariant}
use Rattle.typing_conditions.specs.Locals.{IsFreeVar}

-- what a free variable in a root reads as has only variables that are free in the scheme
pub record FreeAlike (nodes : List Node) (V : Types) (r : ℕ) (sc : Scheme) : Type 0 where
  pub inside : r < length nodes
  pub each : (u w : ℕ) → IsFreeVar nodes u → StandsIn nodes u r → occurs w (V u) ≡ true → free_in_scheme w sc ≡ true

-- a type is that of a root for other types in the place of its bound variables
pub record IsTaken (nodes : List Node) (V : Types) (r : ℕ) (t : Typ) : Type 0 where
  pub types : Types
  pub variant : IsVariant nodes V types
  pub is : t ≡ types r

-- Under types that fit, each use of the scheme is the root's type for other types in the place of its bound variables.
pub record SchemeFits (nodes : List Node) (V : Types) (r : ℕ) (sc : Scheme) : Type 0 where
  pub free : FreeAlike nodes V r sc
  pub takes : (t : Typ) → IsUse sc t → IsTaken nodes V r t

-- Under a reading only variables of the root's type are free in the scheme, of which none is bound; and each instance of the root's type is a use of the scheme.
pub record SchemeReads (nodes : List Node) (V : Types) (r : ℕ) (sc : Scheme) : Type 0 where
  pub free : FreeAlike nodes V r sc
  pub only : (w : ℕ) → free_in_scheme w sc ≡ true → occurs w (V r) ≡ true
  pub none : (b : ℕ) → is_bound nodes b ≡ true → free_in_scheme b sc ≡ false
  pub gives : (s : Subst) → ((v : ℕ) → is_bound nodes v ≡ false → s v ≡ type.Var v) → IsUse sc (apply s (V r))
