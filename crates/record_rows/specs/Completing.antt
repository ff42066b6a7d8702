-- That all labels of a record type are written: what its call does, and what it carries.
use Rattle.std.specs.Prelude.{◌≡◌, ℕ, true, false, List, [], ◌∷◌, Option, Some, None, if◌then◌else◌}
use Rattle.text_terms.specs.declared.Span.{Span}
use Rattle.text_terms.specs.Bytes.{str_bytes}
use Rattle.tree_model.specs.Trees.{Place}
use Rattle.signature_model.specs.Declarations as rules
use Rattle.signature_model.specs.Declarations.{Name}
use Rattle.typing_model.specs.Records.{is_among, ask_complete}
use Rattle.env_table.specs.declared.entries.Label.{Label}
use Rattle.env_table.specs.declared.faults.FaultKind.TheVariants as fault
use Rattle.typing_state.specs.declared.parts.Parts.{Parts}
use Rattle.typing_state.specs.Messages.{incomplete_text}
use Rattle.typing_conditions.specs.Sights.{Letters}
use Rattle.typing_conditions.specs.Frames.{Frame}
use Rattle.typing_conditions.specs.Carrying.{Scope, Carried}
use Rattle.typing_steps.specs.States.{is_aloud, sight}
use Rattle.typing_steps.specs.Demands.{TestedAs}
use Rattle.record_steps.specs.Named.{labels_here}
use Rattle.record_rows.specs.Fields.{RecordHere, KnownAs}

-- the first label of a declaration of the code that isn't written
abbrev pub absent_here : List Label → List Name → Option Name
absent_here [] seen = None
absent_here (l ∷ ls) seen = if is_among (str_bytes l.name) seen then absent_here ls seen else Some (str_bytes l.name)

-- where no label is absent all stays; an absent one is reported by exactly one fault
abbrev pub AsksAbsent : Option Name → (a b : Parts) → Span → Type 0
AsksAbsent None a b span = b ≡ a
AsksAbsent (Some x) a b span = TestedAs false a b span fault.Complete (incomplete_text x)

-- the same of a record type of the code; where it isn't known nothing is asked
abbrev pub AsksComplete : RecordHere → List Name → (a b : Parts) → Span → Type 0
AsksComplete None seen a b span = b ≡ a
AsksComplete (Some r) seen a b span = AsksAbsent (absent_here (labels_here r.0.shape) seen) a b span

-- what the demand carries, where faults are reported
abbrev pub Completes : (a b : Parts) → RecordHere → List Name → Place → Type 0
Completes a b here seen at = is_aloud a.telling ≡ true → (F : Frame) (scope : Scope) (G : Letters) (n : ℕ) (found : Option rules.Declaration) → KnownAs F (sight a) G n here found →
    Carried F scope (λ c. ask_complete n 3 at found seen) (sight a) G (sight b) G
