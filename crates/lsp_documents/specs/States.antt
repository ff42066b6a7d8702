-- What is kept of an editor: what was agreed on, whether it asked to shut down, and its open documents.
use Rattle.std.specs.Prelude.{ℕ, ◌+◌, ℤ, List, [], ◌∷◌, Bool, false, Option, Some, None, option_and_then, if◌then◌else◌}
use Rattle.std.specs.List.{remove, slice_get}
use Rattle.std.specs.Str.{bytes_eq}
use Rattle.lsp_model.specs.Messages.{Choices, first_choices}

-- why a document has no text: it is too large, too many others have one, or a message was passed over
pub data Unread : Type 0 where
  too_large : Unread
  too_many : Unread
  passed_over : Unread

-- the text of a document, or why it has none
pub data Content : Type 0 where
  read : List ℕ → Content
  unread : Unread → Content

-- an open document: its name, the version that the editor gave its text, its content, and the bytes of its diagnostics as they were put last, none where they weren't
pub record Document : Type 0 where
  pub uri : List ℕ
  pub version : Option ℤ
  pub content : Content
  pub shown : List ℕ

-- the text of a content
abbrev pub text_of : Content → Option (List ℕ)
text_of (read text) = Some text
text_of (unread why) = None

-- a document with another content
abbrev pub with_content : Document → Content → Document
with_content d c = record { uri = d.uri; version = d.version; content = c; shown = d.shown }

-- a document after its diagnostics were put as these bytes
abbrev pub with_shown : Document → List ℕ → Document
with_shown d bytes = record { uri = d.uri; version = d.version; content = d.content; shown = bytes }

-- what is kept; the documents are in the order in which they were opened
pub record State : Type 0 where
  pub choices : Choices
  pub shut : Bool
  pub documents : List Document

-- what is kept before an editor says anything
abbrev pub first_state : State
first_state = record { choices = first_choices; shut = false; documents = [] }

-- the place of the first document with a name among these, the first of which has the place `at`
abbrev pub place_from : ℕ → List ℕ → List Document → Option ℕ
place_from at uri [] = None
place_from at uri (d ∷ ds) = if bytes_eq d.uri uri then Some at else place_from (at + 1) uri ds

-- the place of the document with a name
abbrev pub place_in : List Document → List ℕ → Option ℕ
place_in ds uri = place_from 0 uri ds

-- the document at a place that may be none
abbrev pub document_at : List Document → Option ℕ → Option Document
document_at ds at = option_and_then (slice_get ds) at

-- the text of the open document of a name, where that is read
abbrev pub text_in : List Document → List ℕ → Option (List ℕ)
text_in ds uri = option_and_then (λ d. text_of d.content) (document_at ds (place_in ds uri))

-- these documents without the one at a place that may be none
abbrev pub taken_off : List Document → Option ℕ → List Document
taken_off ds None = ds
taken_off ds (Some i) = remove ds i

-- one where a document is read
abbrev pub read_one : Content → ℕ
read_one (read text) = 1
read_one (unread why) = 0

-- how many documents are read
abbrev pub read_count : List Document → ℕ
read_count [] = 0
read_count (d ∷ ds) = read_one d.content + read_count ds
