-- What is told of the names that patterns bind.
use Rattle.std.specs.Prelude.{List, Option, Some, None}
use Rattle.token_model.specs.Kinds.{Tok}
use Rattle.typing_state.specs.declared.parts.Parts.{Parts}
use Rattle.typing_state.specs.Goes.{Silent}
use Rattle.use_typing.specs.Labels.{TellsTwice, is_named_in}

-- a name is told where it stands among those before it, and else nothing is
abbrev pub TellsName : List Tok → Tok → (old new : Parts) → Type 0
TellsName seen t old new = TellsTwice (is_named_in t.name seen) t old new

-- the same of one that may be missing
abbrev pub TellsNameIf : List Tok → Option Tok → (old new : Parts) → Type 0
TellsNameIf seen None old new = Silent old new
TellsNameIf seen (Some t) old new = TellsName seen t old new
