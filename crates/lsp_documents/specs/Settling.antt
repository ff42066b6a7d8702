-- What holds once a request is answered, in the code.
use Rattle.std.specs.Prelude.{true}
use Rattle.lsp_front.specs.Sayings.{choices_of}
use Rattle.lsp_documents.specs.States.{State}
use Rattle.lsp_documents.specs.declared.documents.Settled.{Settled}
use Rattle.lsp_documents.specs.declared.documents.Settled.TheVariants.{Nothing, Choices, Shut}

-- what is kept after it
abbrev pub behind : State → Settled → State
behind s Nothing = s
behind s (Choices c) = record { choices = choices_of c; shut = s.shut; documents = s.documents }
behind s Shut = record { choices = s.choices; shut = true; documents = s.documents }
