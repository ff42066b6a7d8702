-- The warnings of a match.
use Rattle.std.specs.Prelude.{◌≡◌, ◌⊎◌, Bool, true, false, if◌then◌else◌, List, [], ◌∷◌, ◌++◌, map}
use Rattle.tree_model.specs.Trees.{Place}
use Rattle.tree_model.specs.Rows.{Row, etry_row}
use Rattle.syntax_tree.specs.View.{place_of}
use Rattle.env_table.specs.declared.faults.Fault.{Fault}
use Rattle.env_table.specs.declared.faults.FaultKind.{FaultKind}
use Rattle.env_table.specs.declared.faults.FaultKind.TheVariants as fault
use Rattle.typing_state.specs.declared.parts.Parts.{Parts}
use Rattle.typing_state.specs.Goes.{faults_of, Goes}
use Rattle.match_warnings.specs.declared.warnings.Rows.{Rows}

-- a warning that may be reported: its kind, and where it is
pub record Warning : Type 0 where
  pub kind : FaultKind
  pub at : Place

-- these faults are some of these warnings, in their order, each of them at most once
abbrev pub AreSomeOf : List Warning → List Fault → Type 0
AreSomeOf [] fs = fs ≡ []
AreSomeOf (w ∷ ws) fs = AreSomeOf ws fs ⊎ ((f : Fault) × (later : List Fault) × (fs ≡ f ∷ later) × (f.kind ≡ w.kind) × (place_of f.span ≡ w.at) × AreSomeOf ws later)

-- what is reported after the faults from before is some of these warnings, in their order
pub record WarnsOf (ws : List Warning) (old new : Parts) : Type 0 where
  pub more : List Fault
  pub faults : faults_of new ≡ faults_of old ++ more
  pub some : AreSomeOf ws more

-- the same after what else a call reports
pub record WarnsAtLast (ws : List Warning) (old new : Parts) : Type 0 where
  pub before : Parts
  pub goes : Goes old before
  pub warns : WarnsOf ws before new

-- values that are missed at a place
abbrev pub missed_at : Place → List Warning
missed_at at = record { kind = fault.Missed; at = at } ∷ []

-- whether a match is a `try`
unfoldable pub is_try : Row → Bool
is_try etry_row = true
is_try _ = false

-- the same of a match, but not of a `try`
abbrev pub missed_in : Row → Place → List Warning
missed_in r at = if is_try r then [] else missed_at at

-- a case that no value reaches
abbrev pub unused_at : Place → List Warning
unused_at at = record { kind = fault.Unused; at = at } ∷ []

-- each case that no value reaches
abbrev pub unused_cases : List Place → List Warning
unused_cases [] = []
unused_cases (case ∷ cases) = unused_at case ++ unused_cases cases

-- the warnings of a match at a place, by the places of its cases
abbrev pub warnings_of : Row → Place → List Place → List Warning
warnings_of r at cases = missed_in r at ++ unused_cases cases

-- where the cases are
abbrev pub spans_of : Rows → List Place
spans_of r = map place_of r.spans.items
