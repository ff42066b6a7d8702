-- The messages of faults of modules, and what is told.
use Rattle.std.specs.Prelude.{ℕ, List, ◌++◌, codes}
use Rattle.signature_match.specs.declared.causes.Cause.{Cause}
use Rattle.signature_match.specs.declared.causes.Cause.TheVariants as cause

-- what is wrong with the component that a path leads to
abbrev pub mismatch_message : Cause → (path : List ℕ) → List ℕ
mismatch_message cause.Absent path = codes "The component " ++ path ++ codes " is absent"
mismatch_message cause.TypeArity path = codes "The type " ++ path ++ codes " has another number of parameters"
mismatch_message cause.TypeDiffers path = codes "The type " ++ path ++ codes " has another definition"
mismatch_message cause.ValueDiffers path = codes "The value " ++ path ++ codes " has another type"
mismatch_message cause.ExceptionDiffers path = codes "The exception " ++ path ++ codes " has another argument"
mismatch_message cause.KindDiffers path = codes "The module " ++ path ++ codes " is of another kind"
mismatch_message cause.ModuleTypeDiffers path = codes "The module type " ++ path ++ codes " has another definition"

abbrev pub no_functor_text : List ℕ
no_functor_text = codes "This module is not a functor"

abbrev pub open_text : List ℕ
open_text = codes "This body leaves a type undetermined"
