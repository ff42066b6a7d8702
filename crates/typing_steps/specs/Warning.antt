-- What a call does that only warns, or only records in which environment nodes are treated.
use Rattle.std.specs.Prelude.{◌≡◌, ℕ, true}
use Rattle.typed_index.specs.Seen.{seen_at}
use Rattle.typing_state.specs.declared.parts.Parts.{Parts}
use Rattle.typing_state.specs.Goes.{faults_of, OnlyFaults, OnlyIndex}
use Rattle.typing_conditions.specs.Sights.{AreScopesIn}
use Rattle.typing_steps.specs.States.{type_in, is_noted, reports_of, sight}

-- all but the faults is as before, and those that are told are warnings, which no demand makes
pub record OnlyWarnings (old new : Parts) : Type 0 where
  pub rest : OnlyFaults old new
  pub told : reports_of (faults_of new) ≡ reports_of (faults_of old)

-- all but what is recorded for nodes is as before, no type is recorded, and what was noted is so still, with the same names in scope
pub record OnlyNotes (old new : Parts) : Type 0 where
  pub rest : OnlyIndex old new
  pub types : (i p : ℕ) → type_in (seen_at new.index i p) ≡ type_in (seen_at old.index i p)
  pub noted : (i p : ℕ) → is_noted (seen_at old.index i p) ≡ true → is_noted (seen_at new.index i p) ≡ true
  pub scopes : AreScopesIn (sight old).scopes (sight new).scopes
