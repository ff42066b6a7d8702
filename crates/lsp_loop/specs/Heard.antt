-- The messages that the bytes of an editor are, and what they put.
use Rattle.std.specs.Prelude.{◌≡◌, ℕ, ◌+◌, List, [], ◌∷◌, ◌++◌, length}
use Rattle.std.specs.List.{concat}
use Rattle.lsp_model.specs.Frames.{frame, whole, over}
use Rattle.lsp_model.specs.Messages.{message}
use Rattle.lsp_model.specs.Answers.{Piece}
use Rattle.lsp_documents.specs.States.{State}
use Rattle.lsp_documents.specs.Puts.{MessagePuts, PassedPuts}
use Rattle.lsp_documents.specs.Steps.{bytes_of}

-- what an editor sends: a body, or one that is too long and passed over
pub data Heard : Type 0 where
  body : List ℕ → Heard
  passed : Heard

-- bytes begin with a message, and these are after it: of a body its head and itself are before them, of one that is passed over as many bytes as its head says
abbrev pub BeginsWith : List ℕ → Heard → List ℕ → Type 0
BeginsWith bytes (body b) rest = (head : List ℕ) × (frame bytes ≡ whole (length head) (length b)) × (bytes ≡ head ++ (b ++ rest))
BeginsWith bytes passed rest = (head : ℕ) × (count : ℕ) × (front : List ℕ) × (frame bytes ≡ over head count) × (length front ≡ head + count) × (bytes ≡ front ++ rest)

-- bytes are these messages, one after the other, and these bytes are left
abbrev pub Splits : List ℕ → List Heard → List ℕ → Type 0
Splits bytes [] rest = bytes ≡ rest
Splits bytes (h ∷ hs) rest = (mid : List ℕ) × BeginsWith bytes h mid × Splits mid hs rest

-- what one message puts, and what is kept after it
abbrev pub HeardPuts : State → Heard → List Piece → State → Type 0
HeardPuts s (body b) ps s' = MessagePuts s (message b) ps s'
HeardPuts s passed ps s' = PassedPuts s ps s'

-- the bytes of pieces, one after the other
abbrev pub joined : List Piece → List ℕ
joined ps = concat (bytes_of ps)

-- from what is kept, the messages put these bytes in their order, and this is kept after them
abbrev pub RunsTo : State → List Heard → List ℕ → State → Type 0
RunsTo s [] out s' = (out ≡ []) × (s' ≡ s)
RunsTo s (h ∷ hs) out s' = (ps : List Piece) × (mid : State) × (rest : List ℕ) × HeardPuts s h ps mid × RunsTo mid hs rest s' × (out ≡ joined ps ++ rest)
