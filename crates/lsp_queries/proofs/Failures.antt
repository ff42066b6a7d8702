-- A failure and an error have no value.
use Rattle.std.proofs.Common.{◌≡◌, None, Some, List, [], ◌∷◌, map, ap, refl}
use Rattle.std.specs.Prelude.{option_map}
use Rattle.std.specs.List.{slice_get}
use Rattle.std.proofs.lemmas.Option.{none-some}
use Rattle.json_lines.specs.Means.{error_said, failure_said, typed_of}
use Rattle.json_lines.specs.declared.reply.Typed.{Typed}
use Rattle.json_lines.specs.declared.reply.Failure.{Failure}
use Rattle.json_lines.specs.declared.reply.Failure.TheVariants.{NoNode, NotAName, Unbound, NothingToSplit, HiddenConstructor, WouldFault, NotAHole}
use Rattle.json_lines.specs.declared.reply.RequestError.{RequestError}
use Rattle.json_lines.specs.declared.reply.RequestError.TheVariants as error
use Rattle.lsp_queries.specs.Values.{value_of}

-- a failure
pub failure_none : (f : Failure) → value_of (failure_said f) ≡ None
failure_none NoNode = refl
failure_none NotAName = refl
failure_none (Unbound ident) = refl
failure_none NothingToSplit = refl
failure_none (HiddenConstructor name) = refl
failure_none (WouldFault at) = refl
failure_none NotAHole = refl

-- an error
pub error_none : (e : RequestError) → value_of (error_said e) ≡ None
error_none error.LineTooLong = refl
error_none error.NotJson = refl
error_none error.NotARequest = refl
error_none error.UnknownQuery = refl
error_none (error.MissingKey key) = refl
error_none (error.BadNumber key) = refl
error_none (error.BadPosition key) = refl
error_none error.BadRange = refl
error_none (error.SplitsChar key) = refl
error_none (error.TextTooLong bytes) = refl

-- the first of some types
pub first_some : (ts : List Typed) (t : Typed) → slice_get ts 0 ≡ Some t → slice_get (map typed_of ts) 0 ≡ Some (typed_of t)
first_some [] t is = absurd (none-some t is)
first_some (x ∷ ts) t is = ap (option_map typed_of) is

-- there is none
pub first_none : (ts : List Typed) → slice_get ts 0 ≡ None → slice_get (map typed_of ts) 0 ≡ None
first_none [] is = refl
first_none (x ∷ ts) is = ap (option_map typed_of) is
