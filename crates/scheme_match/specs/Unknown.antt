-- Unknown types, which stand for what isn't known.
use Rattle.std.specs.Prelude.{◌≡◌, ℕ, List, slice_get, Some}
use Rattle.type_nodes.specs.Nodes.{Node, Var, bound_level}
use Rattle.type_nodes.specs.Links.{reading}
use Rattle.level_unify.specs.Walks.{StandsIn}

-- a bound variable of the scope 0
abbrev pub unknown_node : Node
unknown_node = Var bound_level 0

-- one of some nodes reads as an unknown type
abbrev pub IsAnyUnknown : List Node → List ℕ → Type 0
IsAnyUnknown nodes ms = (k m : ℕ) × (slice_get ms k ≡ Some m) × (reading nodes m ≡ Some unknown_node)

-- an unknown type stands in n
abbrev pub HasUnknown : List Node → ℕ → Type 0
HasUnknown nodes n = (b : ℕ) × StandsIn nodes b n × (slice_get nodes b ≡ Some unknown_node)
