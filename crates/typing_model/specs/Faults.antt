-- The faults of the typer: for each demand that isn't kept where it stands, and what it tells (Robinson 1965, for types that differ).
use Rattle.std.specs.Prelude.{◌≡◌, ◌≢◌, ℕ, suc, Bool, true, false, ◌⊎◌, List, [], Some}
use Rattle.type_model.specs.Types.{Typ, Var, occurs}
use Rattle.type_model.specs.Substitutions.{Subst, apply}
use Rattle.tree_model.specs.Trees.{Place, Tree}
use Rattle.signature_model.specs.Signatures.{Signature, Structure, Template, components_of}
use Rattle.signature_model.specs.Matching.{Meets, realised_by}
use Rattle.signature_model.specs.Failing.{Blame, blame, KindDiffers, first_in, blamed_in}
use Rattle.signature_model.specs.Entries.{Environment}
use Rattle.typing_model.specs.Demands.{Site, Complaint, Demand, equal, test, agrees, matches, closes, AllHold, demand_of, environment_of}
use Rattle.typing_model.specs.Contexts.{Choice}
use Rattle.typing_model.specs.Typings.{conditions_of, demands_of, is_site_among, kept_before, IsMostGeneralChoice}

-- how two types differ: one would contain itself, one is a type that is made later, or neither
pub data Difference : Type 0 where
  contains_itself : Difference
  made_later : Difference
  plain : Difference

-- one of two types is a variable that stands in the other and isn't it: the occurs check (Robinson 1965)
abbrev pub IsCycle : Typ → Typ → Type 0
IsCycle t u = (v : ℕ) × (((t ≡ Var v) × (occurs v u ≡ true) × (u ≢ Var v)) ⊎ ((u ≡ Var v) × (occurs v t ≡ true) × (t ≢ Var v)))

-- some substitution makes two types one (Robinson 1965)
abbrev pub CanBeOne : Typ → Typ → Type 0
CanBeOne t u = (s : Subst) × (apply s t ≡ apply s u)

-- how two types differ
pub data Differ (t u : Typ) : Difference → Type 0 where
  in_itself : IsCycle t u → Differ t u contains_itself
  later : (IsCycle t u → ⊥) → CanBeOne t u → Differ t u made_later
  apart : (IsCycle t u → ⊥) → (CanBeOne t u → ⊥) → Differ t u plain

-- what a fault tells: the complaint of a demand on names, the two types of an `equal`, the found one first, and how they differ, the component that fails, or that a body leaves a type open
pub data Told : Type 0 where
  complains : Complaint → Told
  types_differ : Typ → Typ → Difference → Told
  mismatches : Blame → Told
  leaves_open : Told

-- a fault: where it stands, what it tells, and the environment in which its types are named
pub record Fault : Type 0 where
  pub at : Place
  pub told : Told
  pub env : Environment

-- in some typing of the demands kept before a match, the actual signature meets the first components of the wanted one, so many of them
pub record MeetsFirst (env : Environment) (text : List Tree) (kept : Site → Bool) (s : Site) (m : ℕ) : Type 0 where
  pub choice : Choice
  pub holds : AllHold (kept_before env text kept s) (conditions_of env text (kept_before env text kept s) choice)
  pub at : Place
  pub actual : Signature
  pub wanted : Template
  pub stands : demand_of s (conditions_of env text (kept_before env text kept s) choice) ≡ Some (at, matches actual wanted)
  pub meets : Meets 0 actual (first_in m (realised_by actual wanted))

-- whether both are structures
abbrev pub are_structures : Signature → Signature → Bool
are_structures (Structure cs) (Structure ds) = true
are_structures _ _ = false

-- what the demand of a site tells, where it isn't kept, by the types of a most general typing of the demands kept before it
pub data Tells (env : Environment) (text : List Tree) (kept : Site → Bool) (s : Site) : Demand → Told → Type 0 where
  by_names : {c : Complaint} {b : Bool} → Tells env text kept s (test c b) (complains c)
  by_shapes : {c : Complaint} {n : ℕ} {t u : _} → Tells env text kept s (agrees c n t u) (complains c)
  by_types : {t u : Typ} {d : Difference} → Differ t u d → Tells env text kept s (equal t u) (types_differ t u d)
  by_component : {A : Signature} {t : Template} {m : ℕ} {b : Blame} → are_structures A t.signature ≡ true →
      MeetsFirst env text kept s m → (MeetsFirst env text kept s (suc m) → ⊥) → blamed_in m (components_of A) (realised_by A t) ≡ Some b → Tells env text kept s (matches A t) (mismatches b)
  by_kind : {A : Signature} {t : Template} → are_structures A t.signature ≡ false → Tells env text kept s (matches A t) (mismatches (blame [] KindDiffers))
  by_body : {outer : Environment} {body : Signature} → Tells env text kept s (closes outer body) leaves_open

-- the fault of a site: the types are those of a most general choice for the demands kept before it
pub record IsFaultAt (env : Environment) (text : List Tree) (kept : Site → Bool) (s : Site) (f : Fault) : Type 0 where
  pub asked : is_site_among s (demands_of env text kept) ≡ true
  pub refused : kept s ≡ false
  pub choice : Choice
  pub general : IsMostGeneralChoice (kept_before env text kept s) (conditions_of env text (kept_before env text kept s)) choice
  pub demand : Demand
  pub stands : demand_of s (conditions_of env text (kept_before env text kept s) choice) ≡ Some (f.at, demand)
  pub tells : Tells env text kept s demand f.told
  pub treated : environment_of s.node (conditions_of env text (kept_before env text kept s) choice) ≡ Some f.env
