-- The diagnostics of documents, as they are put.
use Rattle.std.specs.Prelude.{◌≡◌, ℕ, List, [], ◌∷◌, ◌++◌, codes, None, if◌then◌else◌}
use Rattle.std.specs.Str.{bytes_eq}
use Rattle.lsp_model.specs.Answers.{Diagnostic, Piece, bytes_put, published, an_error}
use Rattle.lsp_model.specs.Messages.{Delivery, sent, asked_for}
use Rattle.lsp_model.specs.Positions.{Columns}
use Rattle.lsp_queries.specs.Diagnostics.{DiagnosticsAre}
use Rattle.lsp_documents.specs.States.{Content, read, unread, Unread, too_large, too_many, passed_over, Document, with_shown}

-- the message that an editor shows of a document that isn't read
abbrev pub unread_text : Unread → List ℕ
unread_text too_large = codes "This document has more than 1048576 bytes and is not read"
unread_text too_many = codes "Too many documents are open; this one is not read"
unread_text passed_over = codes "A message was too long; open this document anew"

-- the one diagnostic of such a document
abbrev pub unread_diagnostic : Unread → Diagnostic
unread_diagnostic why = record { kind = None; message = unread_text why; range = ((0, 0), (0, 1)); severity = an_error }

-- the diagnostics of a document: those of its text, or the one that says why it has none
abbrev pub ContentDiagnostics : Columns → Content → List Diagnostic → Type 0
ContentDiagnostics by (read text) ds = DiagnosticsAre by text ds
ContentDiagnostics by (unread why) ds = ds ≡ unread_diagnostic why ∷ []

-- the piece with the diagnostics of a document
abbrev pub IsReport : Columns → Document → Piece → Type 0
IsReport by d p = (ds : List Diagnostic) × ContentDiagnostics by d.content ds × (p ≡ published d.uri d.version ds)

-- a piece, unless its bytes are those put last
abbrev pub unless_shown : List ℕ → Piece → List Piece
unless_shown bytes p = if bytes_eq (bytes_put p) bytes then [] else p ∷ []

-- The diagnostics of a document are put where they differ from those put last, and are from then on those put last.
abbrev pub Refreshes : Columns → Document → List Piece → Document → Type 0
Refreshes by d ps d' = (p : Piece) × IsReport by d p × (ps ≡ unless_shown d.shown p) × (d' ≡ with_shown d (bytes_put p))

-- the same of each of these documents, in their order
abbrev pub RefreshesAll : Columns → List Document → List Piece → List Document → Type 0
RefreshesAll by [] ps ds' = (ps ≡ []) × (ds' ≡ [])
RefreshesAll by (d ∷ ds) ps ds' =
    (first : List Piece) × (rest : List Piece) × (d' : Document) × (others : List Document) × Refreshes by d first d' × RefreshesAll by ds rest others × (ps ≡ first ++ rest) × (ds' ≡ d' ∷ others)

-- nothing is put where an editor asks for diagnostics
abbrev pub RefreshesBy : Delivery → Columns → List Document → List Piece → List Document → Type 0
RefreshesBy sent by ds ps ds' = RefreshesAll by ds ps ds'
RefreshesBy asked_for by ds ps ds' = (ps ≡ []) × (ds' ≡ ds)
