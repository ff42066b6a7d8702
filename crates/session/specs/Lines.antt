-- What an answer means.
use Rattle.std.specs.Prelude.{◌≡◌, ℕ, List, Option, Some, None}
use Rattle.text_terms.specs.Bytes.{str_bytes}
use Rattle.text_model.specs.Edits as edit
use Rattle.text_store.specs.declared.edits.TextRefusal.{TextRefusal}
use Rattle.text_store.specs.declared.edits.TextRefusal.TheVariants as code
use Rattle.query_engine.specs.declared.asked.QueryFault.{QueryFault}
use Rattle.query_engine.specs.declared.asked.QueryFault.TheVariants as fault
use Rattle.service_model.specs.Requests.{Asked, Refusal}
use Rattle.service_model.specs.Replies as said
use Rattle.service_model.specs.Answers.{Replies, edit_refusal}
use Rattle.session.specs.declared.session.Line.{Line}
use Rattle.session.specs.declared.session.Line.TheVariants.{Written, Memory}

-- the bytes of an answer's line; where memory is short, the line that tells so
abbrev pub line_bytes : Line → List ℕ
line_bytes (Written v) = v.items
line_bytes Memory = said.memory_line

-- the line of a reply, unless memory is short
abbrev pub IsWritten : said.Said → Line → Type 0
IsWritten s (Written v) = v.items ≡ said.line_of s
IsWritten s Memory = Unit {0}

-- the line of something of which P holds, unless memory is short
abbrev pub Says : (said.Said → Type 0) → Line → Type 0
Says P (Written v) = (s : said.Said) × P s × (v.items ≡ said.line_of s)
Says P Memory = Unit {0}

-- the line of what is said to a request at a text, and the text behind it; where memory is short the text stays
abbrev pub RepliesBy : List ℕ → Asked → Line → List ℕ → Type 0
RepliesBy text a (Written v) after = (s : said.Said) × Replies text a s after × (v.items ≡ said.line_of s)
RepliesBy text a Memory after = after ≡ text

-- the line of a refusal; want of memory has no other line than its own
abbrev pub RefusesBy : Option Refusal → Line → Type 0
RefusesBy (Some r) l = IsWritten (said.refused r) l
RefusesBy None l = l ≡ Memory

-- why the store refuses an edit; want of memory is no refusal
abbrev pub refusal_in : TextRefusal → Option edit.Refusal
refusal_in (code.BadPosition end) = Some (edit.bad_position end)
refusal_in code.BadRange = Some edit.bad_range
refusal_in (code.SplitsChar end) = Some (edit.splits_char end)
refusal_in (code.TextTooLong bytes) = Some (edit.text_too_long bytes)
refusal_in code.NoMemory = None

-- the line of the store's refusal of an edit
abbrev pub RefusesEditBy : Option edit.Refusal → Line → Type 0
RefusesEditBy (Some r) l = IsWritten (edit_refusal r) l
RefusesEditBy None l = l ≡ Memory

-- why a query has no value; want of memory is no failure
abbrev pub failure_in : QueryFault → Option said.Said
failure_in fault.NoNode = Some said.no_node
failure_in fault.NotAName = Some said.not_a_name
failure_in (fault.Unbound ident) = Some (said.unbound (str_bytes ident))
failure_in fault.NoMemory = None
