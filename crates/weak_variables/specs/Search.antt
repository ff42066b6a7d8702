-- The search for weak variables, and what is kept of it.
use Rattle.std.specs.Prelude.{◌≡◌, ℕ, Bool, true, false, not, ◌&&◌, nat_eq, nat_lt, List, length, map, Option, Some, None}
use Rattle.std.specs.HashSet.{contains}
use Rattle.std.specs.declared.vec.Vec.{Vec}
use Rattle.std.specs.declared.alloc.Global.{Global}
use Rattle.type_terms.specs.declared.types.NodeRef.{NodeRef}
use Rattle.type_nodes.specs.Nodes.{Node, Var, Rigid, Link, Arrow, Tuple, Con, bound_level}
use Rattle.type_nodes.specs.Links.{reading}
use Rattle.type_nodes.specs.Views.{numbers}
use Rattle.level_unify.specs.Walks.{IsCleared}
use Rattle.typing_conditions.specs.Locals.{IsFreeVar}
use Rattle.weak_variables.specs.Listed.{Lists, Adds, Finds}
use Rattle.weak_variables.specs.declared.search.Search.{Search}

-- whether a cell is a variable that isn't bound
abbrev pub free_cell : Option Node → Bool
free_cell None = false
free_cell (Some (Var level scope)) = not (nat_eq level bound_level)
free_cell (Some Rigid) = false
free_cell (Some (Link m)) = false
free_cell (Some (Arrow a b)) = false
free_cell (Some (Tuple ms)) = false
free_cell (Some (Con path name ms)) = false

-- whether a node reads as such a variable
abbrev pub is_free : List Node → ℕ → Bool
is_free nodes n = nat_lt n (length nodes) && free_cell (reading nodes n)

-- lists of nodes by their numbers
abbrev pub lists_of : List (Vec NodeRef Global) → List (List ℕ)
lists_of vs = map (λ v. numbers v.items) vs

-- what a search has listed
abbrev pub is_listed : Search → ℕ → Bool
is_listed s = contains nat_eq s.listed

-- a search goes on
abbrev pub ListsTo : Search → Search → Type 0
ListsTo old new = Lists (is_listed old) (is_listed new) (numbers old.found.items) (numbers new.found.items)

-- it goes on and finds these
abbrev pub AddsTo : (ℕ → Type 0) → Search → Search → Type 0
AddsTo P old new = Adds P (is_listed old) (is_listed new) (numbers old.found.items) (numbers new.found.items)

-- one of these that reads as a free variable
abbrev pub IsFreeAs : List Node → (ℕ → Type 0) → ℕ → Type 0
IsFreeAs nodes P v = P v × (is_free nodes v ≡ true)

-- A set of roots was walked: it has the roots of its nodes' parts, and the free variables in it are listed.
pub record AreWalked (nodes : List Node) (walked listed : ℕ → Bool) : Type 0 where
  pub cleared : IsCleared nodes walked
  pub free : (v : ℕ) → walked v ≡ true → IsFreeVar nodes v → listed v ≡ true

-- a search for what is free in the types of these goes on from what was walked
abbrev pub WalksOn : List Node → (R : ℕ → Type 0) → (before after : ℕ → Bool) → (old new : Search) → Type 0
WalksOn nodes R before after old new =
    AreWalked nodes before (is_listed old) → AreWalked nodes after (is_listed new) × Finds nodes R (is_listed old) (is_listed new) (numbers old.found.items) (numbers new.found.items)
