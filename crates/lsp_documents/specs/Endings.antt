-- Whether an editor asked to shut down, in the code.
use Rattle.std.specs.Prelude.{Bool, true, false}
use Rattle.lsp_documents.specs.declared.documents.Ending.{Ending}
use Rattle.lsp_documents.specs.declared.documents.Ending.TheVariants.{Shut, NotShut}

-- whether it did
abbrev pub is_shut : Ending → Bool
is_shut Shut = true
is_shut NotShut = false
