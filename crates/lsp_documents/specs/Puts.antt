-- What each message puts, and what is kept after it.
use Rattle.std.specs.Prelude.{◌≡◌, ◌⊎◌, ℕ, ℤ, List, [], ◌∷◌, ◌++◌, map, true, Option, Some, None}
use Rattle.std.specs.List.{insert, remove, slice_get}
use Rattle.serde_json.specs.Data.{Data}
use Rattle.lsp_model.specs.Messages as say
use Rattle.lsp_model.specs.Messages.{Delivery, sent, asked_for}
use Rattle.lsp_model.specs.Positions.{Columns, offset_at}
use Rattle.lsp_model.specs.Answers as put
use Rattle.lsp_model.specs.Answers.{Action, Answered, Diagnostic, Piece, Symbols, bytes_put}
use Rattle.lsp_queries.specs.Actions.{ProposedAre}
use Rattle.lsp_queries.specs.Symbols.{OutlinedAs}
use Rattle.lsp_queries.specs.Answers.{CompletionIs, DefinitionIs, HighlightsAre, HoverIs, ReferencesAre}
use Rattle.lsp_documents.specs.States.{State, Document, Content, read, unread, too_large, too_many, passed_over, document_at, place_in, taken_off, text_in, with_shown}
use Rattle.lsp_documents.specs.Changes.{content_behind_all, has_room, opened_content}
use Rattle.lsp_documents.specs.Reports.{ContentDiagnostics, IsReport, RefreshesAll, RefreshesBy}

-- ---- requests

-- what is answered of a text: P of one that is there, and else nothing
abbrev pub OfText : (List ℕ → Answered → Type 0) → Option (List ℕ) → Answered → Type 0
OfText P None a = a ≡ put.nothing_there
OfText P (Some text) a = P text a

-- the same of the text of the open document of a name, where that is read
abbrev pub OfOpen : State → List ℕ → (List ℕ → Answered → Type 0) → Answered → Type 0
OfOpen s uri P a = OfText P (text_in s.documents uri) a

-- the same of what is asked of an offset of its text, by a place
abbrev pub AtPlace : State → say.Place → (List ℕ → ℕ → Answered → Type 0) → Answered → Type 0
AtPlace s p P a = OfOpen s p.uri (λ text x. P text (offset_at s.choices.columns p.line p.character text) x) a

-- the diagnostics of a document that may be none
abbrev pub DiagnosticsOf : Columns → Option Document → List Diagnostic → Type 0
DiagnosticsOf by None ds = ds ≡ []
DiagnosticsOf by (Some d) ds = ContentDiagnostics by d.content ds

-- what a request is answered
abbrev pub Answers : State → say.Call → Answered → Type 0
Answers s (say.initialize c) a = a ≡ put.chosen c
Answers s say.shutdown a = a ≡ put.nothing_there
Answers s (say.hover p) a = AtPlace s p (HoverIs s.choices) a
Answers s (say.completion p) a = AtPlace s p (CompletionIs s.choices.columns) a
Answers s (say.definition p) a = AtPlace s p (λ text o x. DefinitionIs s.choices.columns text p.uri o x) a
Answers s (say.references d p) a = AtPlace s p (λ text o x. ReferencesAre s.choices.columns text p.uri d o x) a
Answers s (say.highlights p) a = AtPlace s p (HighlightsAre s.choices.columns) a
Answers s (say.symbols uri) a = OfOpen s uri (λ text x. (ss : Symbols) × OutlinedAs s.choices.columns text ss × (x ≡ put.outlined ss)) a
Answers s (say.actions uri range kinds) a = OfOpen s uri (λ text x. (acts : List Action) × ProposedAre kinds s.choices.columns text range acts × (x ≡ put.proposed uri acts)) a
Answers s (say.diagnostics uri) a = (ds : List Diagnostic) × DiagnosticsOf s.choices.columns (document_at s.documents (place_in s.documents uri)) ds × (a ≡ put.reported ds)

-- what is kept after the answer to a request
abbrev pub settled : State → say.Call → State
settled s (say.initialize c) = record { choices = c; shut = s.shut; documents = s.documents }
settled s say.shutdown = record { choices = s.choices; shut = true; documents = s.documents }
settled s _ = s

-- what a request puts: its answer, or that memory is short, and then nothing changes
abbrev pub RequestPuts : State → Data → say.Call → List Piece → State → Type 0
RequestPuts s id call ps s' =
    ((a : Answered) × Answers s call a × (ps ≡ put.result id a ∷ []) × (s' ≡ settled s call)) ⊎ ((ps ≡ put.error (Some id) put.short_of_memory ∷ []) × (s' ≡ s))

-- ---- notifications

-- what is kept with other documents
abbrev pub with_documents : State → List Document → State
with_documents s ds = record { choices = s.choices; shut = s.shut; documents = ds }

-- The diagnostics of a document, and then of those others that have others than those put last; nothing where an editor asks for them.
abbrev pub Sends : Delivery → Columns → Document → List Document → List Piece → Document → List Document → Type 0
Sends sent by d others ps d' others' =
    (p : Piece) × (rest : List Piece) × IsReport by d p × RefreshesAll by others rest others' × (ps ≡ p ∷ rest) × (d' ≡ with_shown d (bytes_put p))
Sends asked_for by d others ps d' others' = (ps ≡ []) × (d' ≡ d) × (others' ≡ others)

-- a document that is opened beside others
abbrev pub opened_document : List Document → List ℕ → List ℕ → Option ℤ → Document
opened_document others uri text version = record { uri = uri; version = version; content = opened_content (has_room others) text; shown = [] }

-- a document that is opened beside others is the last of them
abbrev pub OpenPuts : State → List Document → Document → List Piece → State → Type 0
OpenPuts s others d ps s' =
    (d' : Document) × (others' : List Document) × Sends s.choices.delivery s.choices.columns d others ps d' others' × (s' ≡ with_documents s (others' ++ d' ∷ []))

-- a document after changes, beside others
abbrev pub changed_document : Columns → List Document → Document → List say.Change → Option ℤ → Document
changed_document by others d cs version = record { uri = d.uri; version = version; content = content_behind_all by (has_room others) d.content cs; shown = d.shown }

-- changes of the document at a place that may be none, by the documents after them
abbrev pub ChangePuts : State → Option ℕ → List say.Change → Option ℤ → List Piece → State → Type 0
ChangePuts s None cs version ps s' = (ps ≡ []) × (s' ≡ s)
ChangePuts s (Some i) cs version ps s' =
    (d : Document) × (d' : Document) × (others' : List Document) × (slice_get s.documents i ≡ Some d)
    × Sends s.choices.delivery s.choices.columns (changed_document s.choices.columns (remove s.documents i) d cs version) (remove s.documents i) ps d' others'
    × (s' ≡ with_documents s (insert others' i d'))

-- that a closed document has no diagnostics, and those of the others that have others than those put last
abbrev pub Clears : Delivery → Columns → List ℕ → List Document → List Piece → List Document → Type 0
Clears sent by uri others ps others' = (rest : List Piece) × RefreshesAll by others rest others' × (ps ≡ put.published uri None [] ∷ rest)
Clears asked_for by uri others ps others' = (ps ≡ []) × (others' ≡ others)

-- the document at a place that may be none is closed
abbrev pub ClosePuts : State → List ℕ → Option ℕ → List Piece → State → Type 0
ClosePuts s uri None ps s' = (ps ≡ []) × (s' ≡ s)
ClosePuts s uri (Some i) ps s' =
    (others' : List Document) × Clears s.choices.delivery s.choices.columns uri (remove s.documents i) ps others' × (s' ≡ with_documents s others')

-- what a notification puts; after `exit` nothing is put, since the run ends
abbrev pub NoticePuts : State → say.Notice → List Piece → State → Type 0
NoticePuts s (say.opened uri text version) ps s' =
    OpenPuts s (taken_off s.documents (place_in s.documents uri)) (opened_document (taken_off s.documents (place_in s.documents uri)) uri text version) ps s'
NoticePuts s (say.changed uri cs version) ps s' = ChangePuts s (place_in s.documents uri) cs version ps s'
NoticePuts s (say.closed uri) ps s' = ClosePuts s uri (place_in s.documents uri) ps s'
NoticePuts s say.exit ps s' = ⊥

-- ---- messages

-- the error of a message that is none, or that asks nothing that is known
abbrev pub refusal_piece : say.Refusal → Piece
refusal_piece say.parse = put.error None put.no_json
refusal_piece say.invalid = put.error None put.no_message
refusal_piece (say.unknown_method id) = put.error (Some id) put.no_such_method
refusal_piece (say.bad_params id) = put.error (Some id) put.wrong_params

-- what a message puts, and what is kept after it
abbrev pub MessagePuts : State → say.Message → List Piece → State → Type 0
MessagePuts s (say.request id call) ps s' = RequestPuts s id call ps s'
MessagePuts s (say.notice n) ps s' = NoticePuts s n ps s'
MessagePuts s (say.refused r) ps s' = (ps ≡ refusal_piece r ∷ []) × (s' ≡ s)
MessagePuts s say.ignored ps s' = (ps ≡ []) × (s' ≡ s)

-- the content of a document after a body that was passed over: none, since a change of it may be lost
abbrev pub content_lost : Content → Content
content_lost (unread too_many) = unread too_many
content_lost (unread too_large) = unread passed_over
content_lost (unread passed_over) = unread passed_over
content_lost (read text) = unread passed_over

-- a document after such a body
abbrev pub document_lost : Document → Document
document_lost d = record { uri = d.uri; version = d.version; content = content_lost d.content; shown = d.shown }

-- what a body that is passed over puts: its error, and the diagnostics of the documents that have others than those put last
abbrev pub PassedPuts : State → List Piece → State → Type 0
PassedPuts s ps s' =
    (rest : List Piece) × (others' : List Document) × RefreshesBy s.choices.delivery s.choices.columns (map document_lost s.documents) rest others'
    × (s' ≡ with_documents s others') × (ps ≡ put.error None put.too_long ∷ rest)
