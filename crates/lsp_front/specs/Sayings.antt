-- Messages of the code as the definitions have them.
use Rattle.std.specs.Prelude.{ℕ, List, map, option_map}
use Rattle.serde_json.specs.Data.{Data, string, number}
use Rattle.serde_json.specs.View.{number_view}
use Rattle.text_terms.specs.Bytes.{str_bytes}
use Rattle.lsp_model.specs.Messages as model
use Rattle.lsp_positions.specs.Texts.{columns_in}
use Rattle.lsp_front.specs.declared.message.Position.{Position}
use Rattle.lsp_front.specs.declared.message.Range.{Range}
use Rattle.lsp_front.specs.declared.message.HoverForm.{HoverForm}
use Rattle.lsp_front.specs.declared.message.HoverForm.TheVariants.{Plaintext, Markdown}
use Rattle.lsp_front.specs.declared.message.Delivery.{Delivery}
use Rattle.lsp_front.specs.declared.message.Delivery.TheVariants.{Sent, AskedFor}
use Rattle.lsp_front.specs.declared.message.Choices.{Choices}
use Rattle.lsp_front.specs.declared.message.Place.{Place}
use Rattle.lsp_front.specs.declared.message.Declaration.{Declaration}
use Rattle.lsp_front.specs.declared.message.Declaration.TheVariants.{With, Without}
use Rattle.lsp_front.specs.declared.message.Kinds.{Kinds}
use Rattle.lsp_front.specs.declared.message.PlaceCall.{PlaceCall}
use Rattle.lsp_front.specs.declared.message.PlaceCall.TheVariants.{Hover, Completion, Definition, References, Highlights}
use Rattle.lsp_front.specs.declared.message.DocumentCall.{DocumentCall}
use Rattle.lsp_front.specs.declared.message.DocumentCall.TheVariants.{Symbols, Diagnostics}
use Rattle.lsp_front.specs.declared.message.Call.{Call}
use Rattle.lsp_front.specs.declared.message.Call.TheVariants.{Initialize, Shutdown, At, Of, Actions}
use Rattle.lsp_front.specs.declared.message.Change.{Change}
use Rattle.lsp_front.specs.declared.message.Notice.{Notice}
use Rattle.lsp_front.specs.declared.message.Notice.TheVariants.{Opened, Changed, Closed, Exit}
use Rattle.lsp_front.specs.declared.message.Id.{Id}
use Rattle.lsp_front.specs.declared.message.Id.TheVariants.{Text, Number}
use Rattle.lsp_front.specs.declared.message.Refusal.{Refusal}
use Rattle.lsp_front.specs.declared.message.Refusal.TheVariants.{Parse, Invalid, UnknownMethod, BadParams}
use Rattle.lsp_front.specs.declared.message.Message.{Message}
use Rattle.lsp_front.specs.declared.message.Message.TheVariants as message
use Rattle.lsp_front.specs.declared.read.Asked.{Asked}
use Rattle.lsp_front.specs.declared.read.Asked.TheVariants.{NoMethod, NoParams, Asks}

-- a position
abbrev pub pair_of : Position → ℕ × ℕ
pair_of p = (p.line, p.character)

-- a range
abbrev pub range_of : Range → model.Range
range_of r = (pair_of r.start, pair_of r.end)

-- how a hover is written
abbrev pub hover_in : HoverForm → model.HoverForm
hover_in Plaintext = model.plaintext
hover_in Markdown = model.markdown

-- how an editor gets diagnostics
abbrev pub delivery_in : Delivery → model.Delivery
delivery_in Sent = model.sent
delivery_in AskedFor = model.asked_for

-- what an editor chooses
abbrev pub choices_of : Choices → model.Choices
choices_of c = record { columns = columns_in c.columns; hover = hover_in c.hover; delivery = delivery_in c.delivery }

-- a place in a document
abbrev pub place_of : Place → model.Place
place_of p = record { uri = str_bytes p.uri; line = p.at.line; character = p.at.character }

-- whether references are asked for with the defining place
abbrev pub declaration_in : Declaration → model.Declaration
declaration_in With = model.with_it
declaration_in Without = model.without_it

-- which kinds of actions are asked for
abbrev pub kinds_of : Kinds → model.Kinds
kinds_of k = record { rewrite = k.rewrite; quickfix = k.quickfix }

-- what is asked of a place
abbrev pub place_call : PlaceCall → model.Place → model.Call
place_call Hover p = model.hover p
place_call Completion p = model.completion p
place_call Definition p = model.definition p
place_call (References d) p = model.references (declaration_in d) p
place_call Highlights p = model.highlights p

-- what is asked of a document
abbrev pub document_call : DocumentCall → List ℕ → model.Call
document_call Symbols uri = model.symbols uri
document_call Diagnostics uri = model.diagnostics uri

-- what a request asks
abbrev pub call_of : Call → model.Call
call_of (Initialize c) = model.initialize (choices_of c)
call_of Shutdown = model.shutdown
call_of (At what place) = place_call what (place_of place)
call_of (Of what uri) = document_call what (str_bytes uri)
call_of (Actions uri range kinds) = model.actions (str_bytes uri) (range_of range) (kinds_of kinds)

-- what comes of a method
abbrev pub asked_of : Asked → model.Asked
asked_of NoMethod = model.no_method
asked_of NoParams = model.no_params
asked_of (Asks call) = model.asks (call_of call)

-- a change of a text
abbrev pub change_of : Change → model.Change
change_of c = record { range = option_map range_of c.range; text = str_bytes c.text }

-- what a notification says
abbrev pub notice_of : Notice → model.Notice
notice_of (Opened uri text version) = model.opened (str_bytes uri) (str_bytes text) version
notice_of (Changed uri changes version) = model.changed (str_bytes uri) (map change_of changes.items) version
notice_of (Closed uri) = model.closed (str_bytes uri)
notice_of Exit = model.exit

-- an id
abbrev pub id_of : Id → Data
id_of (Text s) = string (str_bytes s)
id_of (Number n) = number (number_view n.number)

-- why a message has an error
abbrev pub refusal_of : Refusal → model.Refusal
refusal_of Parse = model.parse
refusal_of Invalid = model.invalid
refusal_of (UnknownMethod id) = model.unknown_method (id_of id)
refusal_of (BadParams id) = model.bad_params (id_of id)

-- a message
abbrev pub message_of : Message → model.Message
message_of (message.Request id call) = model.request (id_of id) (call_of call)
message_of (message.Notice n) = model.notice (notice_of n)
message_of (message.Refused r) = model.refused (refusal_of r)
message_of message.Ignored = model.ignored
