-- The state after the prelude, from which the first item of a text is typed.
use Rattle.std.proofs.Common.{◌∙◌, ap, arith, List}
use Rattle.signature_model.specs.Entries.{Environment}
use Rattle.typing_model.specs.First.{IsFirst}
use Rattle.env_table.specs.declared.entries.Entry.{Entry}
use Rattle.typing_state.specs.declared.parts.Parts.{Parts}
use Rattle.typing_state.specs.Fresh.{IsNew}
use Rattle.typing_state.specs.Goes.{Goes}
use Rattle.typing_steps.specs.States.{is_aloud}
use Rattle.prelude_checks.specs.Known.{StartsFirst}
use Rattle.prelude_checks.proofs.Prelude.{first_names, is_first}
use Rattle.text_analysis.specs.Given.{Opens}

-- there is a first environment
some_first : (names : Environment) × IsFirst names
some_first = (first_names, is_first)

-- So the prelude's typing, from a state in which nothing was typed, ends where the first item of a text can be typed.
pub opens_first : (old now : Parts) (env : List Entry) → IsNew old → Goes old now → ((names : Environment) → IsFirst names → StartsFirst now env names) → Opens now env
opens_first old now env new goes starts = record {
  aloud = ap is_aloud (goes.telling ∙ new.aloud);
  level = (starts some_first.0 some_first.1).starts.outside.level;
  unrecorded = λ i p lt. goes.index i p (λ e. absurd (let n = e ∙ new.item in omega arith)) ∙ new.unrecorded i p;
  starts = starts;
}
