-- Readings: the types that the nodes of a store may have.
use Rattle.std.specs.Prelude.{◌≡◌, ◌≢◌, ℕ, false, List, map, slice_get, Some}
use Rattle.type_model.specs.Types.{Typ, types_of, occurs}
use Rattle.type_model.specs.Types.{Typ as type}
use Rattle.type_model.specs.Origins.{rigid}
use Rattle.type_model.specs.Limits.{IsInScope}
use Rattle.type_nodes.specs.Nodes.{Node, Var, Rigid, Link, Arrow, Tuple, Con, bound_level}

-- a type for each node
abbrev pub Types : Type 0
Types = ℕ → Typ

-- A node's type is built from the types of its parts. A free variable's has only origins made before its scope.
abbrev pub FitsNode : Types → ℕ → Node → Type 0
FitsNode V n (Var level scope) = level ≢ bound_level → IsInScope scope (V n)
FitsNode V n Rigid = V n ≡ rigid n
FitsNode V n (Link m) = V n ≡ V m
FitsNode V n (Arrow a b) = V n ≡ type.Arrow (V a) (V b)
FitsNode V n (Tuple ms) = V n ≡ type.Tuple (types_of (map V ms))
FitsNode V n (Con path name ms) = V n ≡ type.Con path (types_of (map V ms))

-- types that fit every node; what a bound variable stands for is left open
pub record Fits (nodes : List Node) (V : Types) : Type 0 where
  pub each : (n : ℕ) (c : Node) → slice_get nodes n ≡ Some c → FitsNode V n c

-- a reading: a bound variable is a type of its own, and occurs in no free variable's type
pub record IsReading (nodes : List Node) (V : Types) : Type 0 where
  pub fits : Fits nodes V
  pub own : (n scope : ℕ) → slice_get nodes n ≡ Some (Var bound_level scope) → V n ≡ type.Var n
  pub apart : (n level scope b scope' : ℕ) → slice_get nodes n ≡ Some (Var level scope) → level ≢ bound_level →
      slice_get nodes b ≡ Some (Var bound_level scope') → occurs b (V n) ≡ false

-- every reading gives both nodes one type
abbrev pub ReadAlike : List Node → ℕ → ℕ → Type 0
ReadAlike nodes a b = (V : Types) → IsReading nodes V → V a ≡ V b

-- the readings are those from before
abbrev pub SameReadings : List Node → List Node → Type 0
SameReadings old new = (V : Types) → (IsReading old V → IsReading new V) × (IsReading new V → IsReading old V)
