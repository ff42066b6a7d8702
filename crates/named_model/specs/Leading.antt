-- Where the use of a name leads (OCaml manual, 11.3): to the place where what it finds is defined.
use Rattle.std.specs.Prelude.{◌≡◌, ℕ, List, Option, Some, None}
use Rattle.tree_model.specs.Trees.{Tree}
use Rattle.type_model.specs.Types.{Typ}
use Rattle.signature_model.specs.Declarations.{Name, Place}
use Rattle.signature_model.specs.Entries.{Kind, Entry, Environment}
use Rattle.signature_model.specs.Lookups.{FoundAmong, an_entry, a_hole, nothing, lookup}
use Rattle.typed_model.specs.Shown.{IsToldTyped, IsTypingOf, asked}

-- the place of what a name comes to; None where nothing is found, or a module that isn't known is on the way
abbrev pub place_found : {E P : Type 0} → (E → P) → FoundAmong E → Option P
place_found at (an_entry e) = Some (at e)
place_found at a_hole = None
place_found at nothing = None

-- where the entry is defined that a path of modules with a name of a kind after it finds in an environment
abbrev pub leads_to : Environment → List Name → Kind → Name → Option Place
leads_to env path k n = place_found (λ (e : Entry). e.place) (lookup env path k n)

-- The use of a name of a kind after a path of modules leads to this place at a typed node, or to none: it is looked up in the environment in which the node is treated, in a principal typing with the kept demands.
pub record Leads {items : List Tree} (t : IsTypingOf items) (node : ℕ) (path : List Name) (k : Kind) (n : Name) (place : Option Place) : Type 0 where
  pub each : (names : Environment) (u : Typ) → IsToldTyped node names u (asked t) → place ≡ leads_to names path k n
