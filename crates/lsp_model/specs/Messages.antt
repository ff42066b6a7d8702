-- What a message asks, over the JSON value that its body is.
use Rattle.std.specs.Prelude.{ℕ, ◌-◌, ◌^◌, ℤ, pos, negsuc, int_lt, ◌&&◌, ◌||◌, List, [], ◌∷◌, Bool, true, false, not, codes, Option, Some, None, option_and_then, option_map, unwrap_or, is_some, nat_lt, if◌then◌else◌}
use Rattle.std.specs.Option.{option_or}
use Rattle.std.specs.Str.{bytes_eq, is_utf8}
use Rattle.serde_json.specs.Data.{Data, null, boolean, number, string, array, object, Items, no_items, item}
use Rattle.serde_json.specs.Find.{get, as_number, as_object, as_array, as_u64, as_i64, as_str, as_bool, is_float}
use Rattle.serde_json.specs.Read.{read}
use Rattle.lsp_model.specs.Positions.{Columns, utf16, bytes}

-- ---- what is asked

-- how a hover's text is written
pub data HoverForm : Type 0 where
  plaintext : HoverForm
  markdown : HoverForm

-- how an editor gets the diagnostics of its documents: they are sent to it, or it asks for them
pub data Delivery : Type 0 where
  sent : Delivery
  asked_for : Delivery

-- what an editor and the service agree on at the start
pub record Choices : Type 0 where
  pub columns : Columns
  pub hover : HoverForm
  pub delivery : Delivery

-- a place in a document: its name, a line and a column
pub record Place : Type 0 where
  pub uri : List ℕ
  pub line : ℕ
  pub character : ℕ

-- two positions, each a line and a column
abbrev pub Range : Type 0
Range = (ℕ × ℕ) × (ℕ × ℕ)

-- whether references are asked for with the place that defines the name, or without it
pub data Declaration : Type 0 where
  with_it : Declaration
  without_it : Declaration

-- which kinds of code actions are asked for
pub record Kinds : Type 0 where
  pub rewrite : Bool
  pub quickfix : Bool

-- what a request asks
pub data Call : Type 0 where
  initialize : Choices → Call
  shutdown : Call
  hover : Place → Call
  completion : Place → Call
  definition : Place → Call
  references : Declaration → Place → Call
  highlights : Place → Call
  symbols : List ℕ → Call
  actions : List ℕ → Range → Kinds → Call
  diagnostics : List ℕ → Call

-- a change of a text: what goes in place of a range, or of the whole
pub record Change : Type 0 where
  pub range : Option Range
  pub text : List ℕ

-- what a notification says; a version is a number that the editor gives a text
pub data Notice : Type 0 where
  opened : List ℕ → List ℕ → Option ℤ → Notice
  changed : List ℕ → List Change → Option ℤ → Notice
  closed : List ℕ → Notice
  exit : Notice

-- why a message has an error in place of an answer; the last two are about a request
pub data Refusal : Type 0 where
  parse : Refusal
  invalid : Refusal
  unknown_method : Data → Refusal
  bad_params : Data → Refusal

-- a message: a request with its id, a notification, one that has an error, or one that is passed over
pub data Message : Type 0 where
  request : Data → Call → Message
  notice : Notice → Message
  refused : Refusal → Message
  ignored : Message

-- ---- values in a message

-- the value at a key that may have none before
abbrev pub in_key : List ℕ → Option Data → Option Data
in_key name d = option_and_then (get name) d

-- the text at a key
abbrev pub text_in : List ℕ → Option Data → Option (List ℕ)
text_in name d = option_and_then as_str (in_key name d)

-- two values, where there are both
abbrev pub both : {A B : Type 0} → Option A → Option B → Option (A × B)
both None b = None
both (Some a) None = None
both (Some a) (Some b) = Some (a, b)

-- a number below 2^32
abbrev pub small : ℕ → Option ℕ
small n = if nat_lt n (2 ^ 32) then Some n else None

-- the number at a key, where it is decimal digits alone, below 2^32
abbrev pub small_in : List ℕ → Data → Option ℕ
small_in name d = option_and_then small (option_and_then as_u64 (option_and_then as_number (get name d)))

-- a position: a line and a column
abbrev pub position_of : Data → Option (ℕ × ℕ)
position_of d = both (small_in (codes "line") d) (small_in (codes "character") d)

-- the position at a key
abbrev pub position_in : List ℕ → Data → Option (ℕ × ℕ)
position_in name d = option_and_then position_of (get name d)

-- a range: two positions
abbrev pub range_of : Data → Option Range
range_of d = both (position_in (codes "start") d) (position_in (codes "end") d)

-- the name of the document that is spoken of
abbrev pub uri_in : Data → Option (List ℕ)
uri_in d = text_in (codes "uri") (get (codes "textDocument") d)

-- the document and the position that are spoken of
abbrev pub place_in : Data → Option Place
place_in d = option_map (λ p. record { uri = p.0; line = p.1.0; character = p.1.1 }) (both (uri_in d) (position_in (codes "position") d))

-- ---- what an editor chooses

-- the first member of a list that is one of two texts, with what it chooses; the first of the two where there is none
abbrev pub chosen_of : {A : Type 0} → (List ℕ → Option A) → Items → Option A
chosen_of f no_items = None
chosen_of f (item d ds) = option_or (option_and_then f (as_str d)) (chosen_of f ds)

-- the same of the list that a value is
abbrev pub chosen_in : {A : Type 0} → (List ℕ → Option A) → A → Option Data → A
chosen_in f first d = unwrap_or (option_and_then (chosen_of f) (option_and_then as_array d)) first

-- what a text says of columns
abbrev pub columns_named : List ℕ → Option Columns
columns_named s = if bytes_eq s (codes "utf-16") then Some utf16 else if bytes_eq s (codes "utf-8") then Some bytes else None

-- what a text says of hovers
abbrev pub hover_named : List ℕ → Option HoverForm
hover_named s = if bytes_eq s (codes "plaintext") then Some plaintext else if bytes_eq s (codes "markdown") then Some markdown else None

-- diagnostics are asked for where the editor says anything of them
abbrev pub delivery_of : Bool → Delivery
delivery_of true = asked_for
delivery_of false = sent

-- there is an object
abbrev pub is_object : Option Data → Bool
is_object d = is_some (option_and_then as_object d)

-- what is chosen before an editor says anything
abbrev pub first_choices : Choices
first_choices = record { columns = utf16; hover = plaintext; delivery = sent }

-- what an editor's abilities choose
abbrev pub choices_by : Option Data → Choices
choices_by c = record {
  columns = chosen_in columns_named utf16 (in_key (codes "positionEncodings") (in_key (codes "general") c));
  hover = chosen_in hover_named plaintext (in_key (codes "contentFormat") (in_key (codes "hover") (in_key (codes "textDocument") c)));
  delivery = delivery_of (is_object (in_key (codes "diagnostic") (in_key (codes "textDocument") c)));
}

-- ---- requests

-- some text of a list passes a test
abbrev pub any_text : (List ℕ → Bool) → Items → Bool
any_text test no_items = false
any_text test (item d ds) = unwrap_or (option_map test (as_str d)) false || any_text test ds

-- a kind of code actions, or one that it belongs to
abbrev pub names_rewrite : List ℕ → Bool
names_rewrite s = bytes_eq s (codes "refactor.rewrite") || bytes_eq s (codes "refactor") || bytes_eq s []

-- the same of the other kind
abbrev pub names_quickfix : List ℕ → Bool
names_quickfix s = bytes_eq s (codes "quickfix") || bytes_eq s []

-- the kinds that a list names, or all
abbrev pub kinds_of : Option Items → Kinds
kinds_of None = record { rewrite = true; quickfix = true }
kinds_of (Some ds) = record { rewrite = any_text names_rewrite ds; quickfix = any_text names_quickfix ds }

-- the kinds of actions that are asked for
abbrev pub kinds_in : Data → Kinds
kinds_in d = kinds_of (option_and_then as_array (in_key (codes "only") (get (codes "context") d)))

-- references are asked for with the defining place unless the context says no
abbrev pub declaration_of : Bool → Declaration
declaration_of true = with_it
declaration_of false = without_it

-- whether they are asked for with it
abbrev pub declaration_in : Data → Declaration
declaration_in d = declaration_of (unwrap_or (option_and_then as_bool (in_key (codes "includeDeclaration") (get (codes "context") d))) true)

-- what comes of a method: none has this name, what it wants isn't there, or it asks this
pub data Asked : Type 0 where
  no_method : Asked
  no_params : Asked
  asks : Call → Asked

-- what is asked with what is wanted, where that is there
abbrev pub wanting : {A : Type 0} → (A → Call) → Option A → Asked
wanting call None = no_params
wanting call (Some a) = asks (call a)

-- the code actions of a document round a range
abbrev pub actions_of : Kinds → List ℕ × Range → Call
actions_of kinds p = actions p.0 p.1 kinds

-- what a request of this method asks
unfoldable pub asked_by : List ℕ → Data → Asked
asked_by method d =
    if bytes_eq method (codes "initialize") then asks (initialize (choices_by (get (codes "capabilities") d)))
    else if bytes_eq method (codes "shutdown") then asks shutdown
    else if bytes_eq method (codes "textDocument/hover") then wanting hover (place_in d)
    else if bytes_eq method (codes "textDocument/completion") then wanting completion (place_in d)
    else if bytes_eq method (codes "textDocument/definition") then wanting definition (place_in d)
    else if bytes_eq method (codes "textDocument/references") then wanting (references (declaration_in d)) (place_in d)
    else if bytes_eq method (codes "textDocument/documentHighlight") then wanting highlights (place_in d)
    else if bytes_eq method (codes "textDocument/documentSymbol") then wanting symbols (uri_in d)
    else if bytes_eq method (codes "textDocument/codeAction") then wanting (actions_of (kinds_in d)) (both (uri_in d) (option_and_then range_of (get (codes "range") d)))
    else if bytes_eq method (codes "textDocument/diagnostic") then wanting diagnostics (uri_in d)
    else no_method

-- ---- notifications

-- an integer from -2^31 to 2^31 - 1
abbrev pub small_integer : ℤ → Option ℤ
small_integer z = if int_lt z (pos (2 ^ 31)) && not (int_lt z (negsuc (2 ^ 31 - 1))) then Some z else None

-- the version that the text of a document has
abbrev pub version_in : Data → Option ℤ
version_in d = option_and_then small_integer (option_and_then as_i64 (option_and_then as_number (in_key (codes "version") (get (codes "textDocument") d))))

-- the range of a change: none, where it is absent or null; one that is no range makes the change none
abbrev pub change_range : Option Data → Option (Option Range)
change_range None = Some None
change_range (Some null) = Some None
change_range (Some (boolean b)) = None
change_range (Some (number n)) = None
change_range (Some (string s)) = None
change_range (Some (array ds)) = None
change_range (Some (object ms)) = option_map Some (range_of (object ms))

-- a change of a text
abbrev pub change_of : Data → Option Change
change_of d = option_map (λ p. record { range = p.0; text = p.1 }) (both (change_range (get (codes "range") d)) (option_and_then as_str (get (codes "text") d)))

-- one change and then others, where there are both
abbrev pub and_changes : Option Change → Option (List Change) → Option (List Change)
and_changes None cs = None
and_changes (Some c) None = None
and_changes (Some c) (Some cs) = Some (c ∷ cs)

-- the changes that a list is, where each member is one
abbrev pub changes_of : Items → Option (List Change)
changes_of no_items = Some []
changes_of (item d ds) = and_changes (change_of d) (changes_of ds)

-- the changes that are told
abbrev pub changes_in : Data → Option (List Change)
changes_in d = option_and_then changes_of (option_and_then as_array (get (codes "contentChanges") d))

-- a notification, where what it says is there; else it is passed over
abbrev pub noticed : {A : Type 0} → (A → Notice) → Option A → Message
noticed says None = ignored
noticed says (Some a) = notice (says a)

-- the text that a document is opened with
abbrev pub opened_by : Option ℤ → List ℕ × List ℕ → Notice
opened_by version p = opened p.0 p.1 version

-- the changes of a document
abbrev pub changed_by : Option ℤ → List ℕ × List Change → Notice
changed_by version p = changed p.0 p.1 version

-- what a notification of this method says
unfoldable pub notice_by : List ℕ → Data → Message
notice_by method d =
    if bytes_eq method (codes "textDocument/didOpen") then noticed (opened_by (version_in d)) (both (uri_in d) (text_in (codes "text") (get (codes "textDocument") d)))
    else if bytes_eq method (codes "textDocument/didChange") then noticed (changed_by (version_in d)) (both (uri_in d) (changes_in d))
    else if bytes_eq method (codes "textDocument/didClose") then noticed closed (uri_in d)
    else if bytes_eq method (codes "exit") then notice exit
    else ignored

-- ---- messages

-- an id: a text, or an integer
abbrev pub id_of : Data → Option Data
id_of null = None
id_of (boolean b) = None
id_of (number n) = if is_float n then None else Some (number n)
id_of (string s) = Some (string s)
id_of (array ds) = None
id_of (object ms) = None

-- what is made of a request, by what it asks
abbrev pub requested : Data → Asked → Message
requested id no_method = refused (unknown_method id)
requested id no_params = refused (bad_params id)
requested id (asks call) = request id call

-- a request of a method, by its id
abbrev pub request_by : Option Data → List ℕ → Data → Message
request_by None method d = refused invalid
request_by (Some id) method d = requested id (asked_by method d)

-- what comes with a method
abbrev pub params_in : Data → Data
params_in d = unwrap_or (get (codes "params") d) null

-- a message of a method: a request exactly where it has an id
abbrev pub message_by : Option Data → List ℕ → Data → Message
message_by None method d = notice_by method d
message_by (Some id) method d = request_by (id_of id) method d

-- the key is there, whatever its value
abbrev pub has : List ℕ → Data → Bool
has name d = is_some (get name d)

-- what an editor answers; the service asks nothing, so it passes over it
abbrev pub is_answer : Data → Bool
is_answer d = not (has (codes "method") d) && (has (codes "result") d || has (codes "error") d)

-- a value that a body is, by its method
abbrev pub message_named : Option (List ℕ) → Data → Message
message_named None d = if is_answer d then ignored else refused invalid
message_named (Some method) d = message_by (get (codes "id") d) method (params_in d)

-- what a body is that is a value
unfoldable pub message_of : Data → Message
message_of d = message_named (option_and_then as_str (get (codes "method") d)) d

-- what it is, if it is one
abbrev pub message_in : Option Data → Message
message_in None = refused parse
message_in (Some d) = message_of d

-- what a body is
unfoldable pub message : List ℕ → Message
message body = if is_utf8 body then message_in (read body) else refused parse
