-- The message of a demand that two types are one, where it isn't kept: which types it names, and how they are printed.
use Rattle.std.specs.Prelude.{◌≡◌, ◌≢◌, ◌⊎◌, ℕ, Bool, true, List, [], ◌++◌, codes, slice_get, Some}
use Rattle.tree_model.specs.Trees.{Place, Tree}
use Rattle.type_model.specs.Types.{Path, Typ, Var, occurs}
use Rattle.type_model.specs.Substitutions.{apply, Subst}
use Rattle.signature_model.specs.Declarations.{Name}
use Rattle.signature_model.specs.Entries.{Environment}
use Rattle.type_print_model.specs.Paths.{NamePath, Reaches, naming}
use Rattle.type_print_model.specs.Printing.{mentions, PrintsTwo}
use Rattle.typing_model.specs.Demands.{Site, equal, Condition, treated, demand_of, AllHold}
use Rattle.typing_model.specs.Contexts.{Choice}
use Rattle.typing_model.specs.Typings.{conditions_of, kept_before, conditions_before}

-- what is said behind the two types: nothing, that one would contain itself, or that a type that is declared later may not stand in one
pub data Ending : Type 0 where
  no_more : Ending
  contains_itself : Ending
  declared_later : Ending

-- its text
abbrev pub ending_text : Ending → List ℕ
ending_text no_more = []
ending_text contains_itself = codes ", which would contain itself"
ending_text declared_later = codes ", in which a later type may not stand"

-- a type is found where another one is wanted
abbrev pub mismatch_text : (found wanted : List ℕ) → Ending → List ℕ
mismatch_text found wanted ending = codes "This has type " ++ found ++ codes " but type " ++ wanted ++ codes " is wanted" ++ ending_text ending

-- one type is a variable that stands in the other, which is another type
abbrev pub IsInside : Typ → Typ → Type 0
IsInside t u = (v : ℕ) × (t ≡ Var v) × (u ≢ Var v) × (occurs v u ≡ true)

-- one of two types would contain itself, if they were one
abbrev pub IsCyclic : Typ → Typ → Type 0
IsCyclic t u = IsInside t u ⊎ IsInside u t

-- some substitution makes two types one
abbrev pub AreUnifiable : Typ → Typ → Type 0
AreUnifiable t u = (s : Subst) × (apply s t ≡ apply s u)

-- Which ending two types have: that one would contain itself, where it would; else that one is declared later, where only that keeps them from being one; else none.
abbrev pub HasEnding : Typ → Typ → Ending → Type 0
HasEnding t u no_more = (IsCyclic t u → ⊥) × (AreUnifiable t u → ⊥)
HasEnding t u contains_itself = IsCyclic t u
HasEnding t u declared_later = (IsCyclic t u → ⊥) × AreUnifiable t u

-- a path of an environment's names reaches each origin in a type
abbrev pub HasPaths : Environment → Typ → Type 0
HasPaths names t = (o : Path) → mentions o t ≡ true → (p : NamePath) × Reaches naming names o p

-- A message prints two types with the names of an environment, whose paths reach each origin in them; variables that they share have one name in both.
pub record IsMismatch (names : Environment) (found wanted : Typ) (message : List ℕ) : Type 0 where
  pub found_paths : HasPaths names found
  pub wanted_paths : HasPaths names wanted
  pub declared : Path → Name
  pub first : List ℕ
  pub second : List ℕ
  pub prints : PrintsTwo naming names declared found wanted first second
  pub ending : Ending
  pub ends : HasEnding found wanted ending
  pub says : message ≡ mismatch_text first second ending

-- what a text asks before the demand of a site, with the demands that are kept before it, for the types that are chosen
abbrev pub asked_before : Environment → List Tree → (Site → Bool) → Site → Choice → List Condition
asked_before env text kept s choice = conditions_before s (conditions_of env text (kept_before env text kept s) choice)

-- two types come from two others by one substitution
pub record AreInstances (t u found wanted : Typ) : Type 0 where
  pub types : Subst
  pub first : t ≡ apply types found
  pub second : u ≡ apply types wanted

-- The two types of the demand of a site: it has them where the types that are chosen meet what is asked before it, with the demands that are kept before it, and they are the most general ones: those that it has for
-- each other choice that meets this come from them by one substitution.
pub record IsPairAt (env : Environment) (text : List Tree) (kept : Site → Bool) (s : Site) (at : Place) (found wanted : Typ) : Type 0 where
  pub choice : Choice
  pub holds : AllHold (kept_before env text kept s) (asked_before env text kept s choice)
  pub asks : demand_of s (conditions_of env text (kept_before env text kept s) choice) ≡ Some (at, equal found wanted)
  pub general : (other : Choice) → AllHold (kept_before env text kept s) (asked_before env text kept s other) →
      (place : Place) × (t : Typ) × (u : Typ) × (demand_of s (conditions_of env text (kept_before env text kept s) other) ≡ Some (place, equal t u)) × AreInstances t u found wanted

-- conditions say of a node that it is treated in an environment
abbrev pub IsTreatedIn : ℕ → Environment → List Condition → Type 0
IsTreatedIn n names cs = (k : ℕ) × (slice_get cs k ≡ Some (treated n names))

-- The message of the demand of a site: it prints the demand's two types with the names in scope where its node is treated.
pub record IsMessageAt (env : Environment) (text : List Tree) (kept : Site → Bool) (s : Site) (at : Place) (message : List ℕ) : Type 0 where
  pub found : Typ
  pub wanted : Typ
  pub pair : IsPairAt env text kept s at found wanted
  pub names : Environment
  pub in_scope : IsTreatedIn s.node names (asked_before env text kept s pair.choice)
  pub prints : IsMismatch names found wanted message
