-- The content of a document when it is opened and after each change.
use Rattle.std.specs.Prelude.{ℕ, List, [], ◌∷◌, Bool, true, false, nat_lt, Option, Some, None, option_map}
use Rattle.text_model.specs.Edits as edit
use Rattle.text_model.specs.Positions.{position_of}
use Rattle.service_model.specs.Answers.{tell_outcome}
use Rattle.lsp_model.specs.Messages.{Change, Range}
use Rattle.lsp_model.specs.Positions.{Columns}
use Rattle.lsp_queries.specs.Shown.{span_asked}
use Rattle.lsp_documents.specs.States.{Content, read, unread, Unread, too_large, too_many, passed_over, Document, read_count}

-- how many documents are read at once
abbrev pub read_limit : ℕ
read_limit = 32

-- whether one more document may be read beside these
abbrev pub has_room : List Document → Bool
has_room others = nat_lt (read_count others) read_limit

-- After an edit. One that is refused for another cause than its length changes nothing.
abbrev pub edited : Content → edit.Outcome → Content
edited before (edit.changed first new) = read new
edited before (edit.refused (edit.text_too_long n)) = unread too_large
edited before (edit.refused (edit.bad_position end)) = before
edited before (edit.refused edit.bad_range) = before
edited before (edit.refused (edit.splits_char end)) = before

-- a content that is read, where there is room for one more
abbrev pub with_room : Bool → Content → Content
with_room true c = c
with_room false (read text) = unread too_many
with_room false (unread why) = unread why

-- a document's content when it is opened with a text: what a `tell` of it makes of an empty text
abbrev pub opened_content : Bool → List ℕ → Content
opened_content room text = with_room room (edited (read []) (tell_outcome [] None text))

-- the positions of the line protocol for the ends of an editor's range
abbrev pub ends_of : Columns → List ℕ → Range → (ℕ × ℕ) × (ℕ × ℕ)
ends_of by text range = (position_of text (span_asked by text range).0, position_of text (span_asked by text range).1)

-- a whole text reads a document again, but not where there were too many; other changes of one that isn't read do nothing
abbrev pub content_again : Bool → Unread → Option Range → List ℕ → Content
content_again room why (Some range) text = unread why
content_again room too_many None text = unread too_many
content_again room too_large None text = opened_content room text
content_again room passed_over None text = opened_content room text

-- after a change: what a `tell` makes of the text
abbrev pub content_behind : Columns → Bool → Content → Change → Content
content_behind by room (read text) c = edited (read text) (tell_outcome text (option_map (ends_of by text) c.range) c.text)
content_behind by room (unread why) c = content_again room why c.range c.text

-- after changes, one after another
abbrev pub content_behind_all : Columns → Bool → Content → List Change → Content
content_behind_all by room content [] = content
content_behind_all by room content (c ∷ cs) = content_behind_all by room (content_behind by room content c) cs
