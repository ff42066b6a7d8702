-- Which variables are free in the types of nodes, of the values among entries, and of what was found.
use Rattle.std.specs.Prelude.{◌≡◌, ◌⊎◌, ℕ, List, [], ◌∷◌}
use Rattle.type_terms.specs.declared.types.NodeRef.{NodeRef}
use Rattle.type_nodes.specs.Nodes.{Node}
use Rattle.level_unify.specs.Walks.{StandsIn}
use Rattle.env_table.specs.declared.entries.Entry.{Entry}
use Rattle.env_table.specs.declared.entries.What.TheVariants as what
use Rattle.typing_conditions.specs.Locals.{IsFreeVar}
use Rattle.typing_conditions.specs.Standing.{IsIn}

-- a variable that isn't bound stands in the type of a node
pub record IsFreeIn (nodes : List Node) (n v : ℕ) : Type 0 where
  pub var : IsFreeVar nodes v
  pub stands : StandsIn nodes v n

-- an entry is a value whose type has this root
abbrev pub HasRoot : Entry → ℕ → Type 0
HasRoot e n = (m : NodeRef) × (e.what ≡ what.Scheme m) × (m.0 ≡ n)

-- a node is the root of a value among entries
abbrev pub IsRoot : List Entry → ℕ → Type 0
IsRoot [] n = ⊥
IsRoot (e ∷ es) n = HasRoot e n ⊎ IsRoot es n

-- each of these entries is a value
abbrev pub AreAllValues : List Entry → Type 0
AreAllValues [] = Unit {0}
AreAllValues (e ∷ es) = ((m : NodeRef) × (e.what ≡ what.Scheme m)) × AreAllValues es

-- a number is in one of some lists
abbrev pub IsFound : List (List ℕ) → ℕ → Type 0
IsFound [] v = ⊥
IsFound (ns ∷ nss) v = IsIn ns v ⊎ IsFound nss v

-- what is free in the types of these nodes is free in the types of those
abbrev pub IsFreeToo : List Node → (R F : ℕ → Type 0) → Type 0
IsFreeToo nodes R F = (n v : ℕ) → R n → IsFreeIn nodes n v → (m : ℕ) × F m × IsFreeIn nodes m v

-- the same is free in both
pub record SameFree (nodes : List Node) (R F : ℕ → Type 0) : Type 0 where
  pub there : IsFreeToo nodes R F
  pub back : IsFreeToo nodes F R

-- these are the variables that are free in the types of some nodes
pub record FreeOf (nodes : List Node) (R : ℕ → Type 0) (vs : List ℕ) : Type 0 where
  pub all : (n v : ℕ) → R n → IsFreeIn nodes n v → IsIn vs v
  pub only : (v : ℕ) → IsIn vs v → (n : ℕ) × R n × IsFreeIn nodes n v
