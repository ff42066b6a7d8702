-- What a reply of the code means.
use Rattle.std.specs.Prelude.{ℕ, List, [], ◌∷◌, codes, map}
use Rattle.text_terms.specs.Bytes.{str_bytes}
use Rattle.service_model.specs.Requests as model
use Rattle.service_model.specs.Replies as said
use Rattle.service_model.specs.Structure.{kind_text}
use Rattle.json_lines.specs.Meets.{pair_of, key_text}
use Rattle.json_lines.specs.declared.reply.Typed.{Typed}
use Rattle.json_lines.specs.declared.reply.Entry.{Entry}
use Rattle.json_lines.specs.declared.reply.EntryKind.{EntryKind}
use Rattle.json_lines.specs.declared.reply.EntryKind.TheVariants as entry
use Rattle.json_lines.specs.declared.reply.PosSpan.{PosSpan}
use Rattle.json_lines.specs.declared.reply.File.{File}
use Rattle.json_lines.specs.declared.reply.File.TheVariants.{Buffer, Prelude}
use Rattle.json_lines.specs.declared.reply.Outlined.{Outlined, fold-Outlined}
use Rattle.json_lines.specs.declared.reply.Outlined.TheOpen.{Outlined-F}
use Rattle.query_engine.specs.declared.slots.OutlineKind.{OutlineKind}
use Rattle.query_engine.specs.View.{kind_of}
use Rattle.json_lines.specs.declared.reply.Listed.{Listed}
use Rattle.json_lines.specs.declared.reply.Failure.{Failure}
use Rattle.json_lines.specs.declared.reply.Failure.TheVariants.{NoNode, NotAName, Unbound, NothingToSplit, HiddenConstructor, WouldFault, NotAHole}
use Rattle.json_lines.specs.declared.reply.RequestError.{RequestError}
use Rattle.json_lines.specs.declared.reply.RequestError.TheVariants as error
use Rattle.json_lines.specs.declared.reply.Reply.{Reply}
use Rattle.json_lines.specs.declared.reply.Reply.TheVariants as reply

-- a typed span, its parts as plain data; so for the others
abbrev pub typed_of : Typed → said.Typed
typed_of t = record { start = pair_of t.start; end = pair_of t.end; type_text = str_bytes t.ty }

-- a kind as it is printed; so for the others
abbrev pub entry_kind_text : EntryKind → List ℕ
entry_kind_text entry.Constructor = codes "Constructor"
entry_kind_text entry.Label = codes "Label"
entry_kind_text entry.Module = codes "Module"
entry_kind_text entry.ModuleType = codes "ModuleType"
entry_kind_text entry.Type = codes "Type"
entry_kind_text entry.Value = codes "Value"

-- an entry of a completion
abbrev pub entry_of : Entry → said.Entry
entry_of e = record { desc = str_bytes e.desc; kind = entry_kind_text e.kind; name = str_bytes e.name }

-- where a part starts and ends, each by line and column
abbrev pub span_of : PosSpan → (ℕ × ℕ) × (ℕ × ℕ)
span_of s = (pair_of s.start, pair_of s.end)

-- the name of a file in a reply
abbrev pub file_text : File → List ℕ
file_text Buffer = codes "buffer"
file_text Prelude = codes "prelude"

-- the kind of an outline's member, as it is printed
abbrev pub outline_kind_text : OutlineKind → List ℕ
outline_kind_text k = kind_text (kind_of k)

-- members, one after another
abbrev pub outline_of : List said.Outlined → said.Outline
outline_of [] = said.no_more
outline_of (o ∷ os) = said.next o (outline_of os)

-- one level, with what stands inside already seen
abbrev pub outlined_step : Outlined-F said.Outlined → said.Outlined
outlined_step o = said.outlined (pair_of o.start) (pair_of o.end) (outline_kind_text o.kind) (str_bytes o.name) (outline_of o.children.items)

-- a member of an outline, with what stands inside
abbrev pub outlined_of : Outlined → said.Outlined
outlined_of = fold-Outlined said.Outlined outlined_step

-- a fault of the page
abbrev pub fault_of : Listed → said.Fault
fault_of f = record { start = pair_of f.start; end = pair_of f.end; kind = str_bytes f.kind; message = str_bytes f.message; source = str_bytes f.ty }

-- a failure as what is said
abbrev pub failure_said : Failure → said.Said
failure_said NoNode = said.no_node
failure_said NotAName = said.not_a_name
failure_said (Unbound ident) = said.unbound (str_bytes ident)
failure_said NothingToSplit = said.nothing_to_split
failure_said (HiddenConstructor name) = said.hidden_constructor (str_bytes name)
failure_said (WouldFault at) = said.would_fault (pair_of at)
failure_said NotAHole = said.not_a_hole

-- an error as what is said
abbrev pub error_said : RequestError → said.Said
error_said error.LineTooLong = said.refused model.line_too_long
error_said error.NotJson = said.refused model.not_json
error_said error.NotARequest = said.refused model.not_a_request
error_said error.UnknownQuery = said.refused model.unknown_query
error_said (error.MissingKey key) = said.refused (model.missing_key (key_text key))
error_said (error.BadNumber key) = said.refused (model.bad_number (key_text key))
error_said (error.BadPosition key) = said.bad_position (key_text key)
error_said error.BadRange = said.bad_range
error_said (error.SplitsChar key) = said.splits_char (key_text key)
error_said (error.TextTooLong bytes) = said.text_too_long bytes

-- a reply as what is said
abbrev pub said_of : Reply → said.Said
said_of (reply.Size n) = said.size n
said_of (reply.Types ts) = said.types (map typed_of ts.items)
said_of (reply.Entries es more) = said.entries (map entry_of es.items) more
said_of (reply.Place file pos) = said.place (file_text file) (pair_of pos)
said_of (reply.Spans ss) = said.spans (map span_of ss.items)
said_of (reply.Outline os) = said.outline (outline_of (map outlined_of os.items))
said_of (reply.Faults fs more) = said.faults (map fault_of fs.items) more
said_of (reply.Split start end text) = said.split (pair_of start) (pair_of end) (str_bytes text)
said_of (reply.Terms start end texts) = said.terms (pair_of start) (pair_of end) (map str_bytes texts.items)
said_of (reply.Failure f) = failure_said f
said_of (reply.Error e) = error_said e
