-- What a mismatch tells.
use Rattle.std.specs.Prelude.{◌≡◌, Bool, [], map, Option, Some, None, if◌then◌else◌}
use Rattle.text_terms.specs.Bytes.{str_bytes}
use Rattle.signature_model.specs.Failing as rules
use Rattle.signature_match.specs.declared.causes.Cause.{Cause}
use Rattle.signature_match.specs.declared.causes.Cause.TheVariants as cause
use Rattle.signature_match.specs.declared.causes.Mismatch.{Mismatch}

-- the causes
abbrev pub cause_of : Cause → rules.Cause
cause_of cause.Absent = rules.Absent
cause_of cause.TypeArity = rules.TypeArity
cause_of cause.TypeDiffers = rules.TypeDiffers
cause_of cause.ValueDiffers = rules.ValueDiffers
cause_of cause.ExceptionDiffers = rules.ExceptionDiffers
cause_of cause.KindDiffers = rules.KindDiffers
cause_of cause.ModuleTypeDiffers = rules.ModuleTypeDiffers

-- the path of names, and the cause
abbrev pub blame_of : Mismatch → rules.Blame
blame_of m = rules.blame (map str_bytes m.path.items) (cause_of m.cause)

-- this cause of the component itself
abbrev pub here : rules.Cause → Option rules.Blame
here c = Some (rules.blame [] c)

-- nothing where it is met, or else this cause
abbrev pub unless : Bool → rules.Cause → Option rules.Blame
unless met c = if met then None else here c

-- nothing is told, or this cause
abbrev pub MayFail : rules.Cause → Option rules.Blame → Type 0
MayFail c None = Unit {0}
MayFail c (Some b) = b ≡ rules.blame [] c
