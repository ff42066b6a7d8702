-- A type with types in the place of some of its bound variables, at each reading.
use Rattle.std.specs.Prelude.{◌≡◌, ℕ, ◌==◌, List, [], ◌∷◌, All, Some, if◌then◌else◌}
use Rattle.type_model.specs.Types.{Typ as type, Typs as types}
use Rattle.type_model.specs.Substitutions.{Subst, apply}
use Rattle.type_nodes.specs.Nodes.{Node, Var, IsNode, bound_level}
use Rattle.type_nodes.specs.Links.{root, reading}
use Rattle.type_nodes.specs.Readings.{Types, IsReading}

-- the type that stands in the place of a variable: that of the first node given that reads as it, or the empty tuple where that has none; else the variable itself
abbrev pub by_types : List Node → Types → (vs ts : List ℕ) → Subst
by_types nodes V [] ts v = type.Var v
by_types nodes V (p ∷ ps) [] v = if root nodes p == v then type.Tuple types.Nil else by_types nodes V ps [] v
by_types nodes V (p ∷ ps) (t ∷ ts) v = if root nodes p == v then V t else by_types nodes V ps ts v

-- a node that reads as a bound variable
abbrev pub ReadsBound : List Node → ℕ → Type 0
ReadsBound nodes p = (scope : ℕ) × (reading nodes p ≡ Some (Var bound_level scope))

-- m is a node, and at each reading its type is n's with the types in place of the variables, where these are bound ones
pub record IsSubstituted (old new : List Node) (vs ts : List ℕ) (n m : ℕ) : Type 0 where
  pub inside : IsNode new m
  pub reads : (V : Types) → IsReading new V → All (ReadsBound old) vs → V m ≡ apply (by_types old V vs ts) (V n)
