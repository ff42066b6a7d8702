-- What comes of a message, in the code.
use Rattle.std.specs.Prelude.{◌≡◌, ℕ, List, map}
use Rattle.lsp_model.specs.Messages.{Message, notice, exit}
use Rattle.lsp_model.specs.Answers.{Piece, bytes_put}
use Rattle.lsp_documents.specs.States.{State}
use Rattle.lsp_documents.specs.Puts.{MessagePuts, PassedPuts}
use Rattle.lsp_documents.specs.Endings.{is_shut}
use Rattle.lsp_documents.specs.declared.documents.Step.{Step}
use Rattle.lsp_documents.specs.declared.documents.Step.TheVariants.{Puts, Exit}

-- pieces as bytes, one list for each
abbrev pub bytes_of : List Piece → List (List ℕ)
bytes_of ps = map bytes_put ps

-- what a message puts, each piece by its bytes; or the run ends, exactly where the message is `exit`
abbrev pub StepBy : State → Message → Step → State → Type 0
StepBy s m (Puts pieces) s' = (ps : List Piece) × MessagePuts s m ps s' × (pieces ≡ bytes_of ps)
StepBy s m (Exit ending) s' = (m ≡ notice exit) × (is_shut ending ≡ s.shut)

-- the same of a body that is passed over
abbrev pub PassedBy : State → Step → State → Type 0
PassedBy s (Puts pieces) s' = (ps : List Piece) × PassedPuts s ps s' × (pieces ≡ bytes_of ps)
PassedBy s (Exit ending) s' = ⊥
