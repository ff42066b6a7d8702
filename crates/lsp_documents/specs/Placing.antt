-- A document is put in among others, in the code.
use Rattle.std.specs.Prelude.{◌≡◌, ℕ, List}
use Rattle.std.specs.List.{insert}
use Rattle.lsp_model.specs.Answers.{Piece}
use Rattle.lsp_documents.specs.States.{Document, State}
use Rattle.lsp_documents.specs.Puts.{with_documents, Sends}

-- these pieces are put of a document beside the others, and it is at this place among them afterwards
abbrev pub Placed : State → Document → ℕ → List Piece → State → Type 0
Placed s d at ps s' =
    (d' : Document) × (others' : List Document) × Sends s.choices.delivery s.choices.columns d s.documents ps d' others' × (s' ≡ with_documents s (insert others' at d'))
