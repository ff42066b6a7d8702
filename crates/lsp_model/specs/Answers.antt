-- What is put for a message: answers, errors and diagnostics, as JSON values and as framed bytes.
use Rattle.std.specs.Prelude.{ℕ, ◌==◌, ℤ, negsuc, List, [], ◌∷◌, ◌++◌, Bool, true, false, codes, map, Option, Some, None, if◌then◌else◌}
use Rattle.serde_json.specs.Data.{Data, null, boolean, number, unsigned, string, array, object, Items, no_items, item, Members, member, no_members}
use Rattle.serde_json.specs.Find.{of_integer}
use Rattle.serde_json.specs.View.{items_of}
use Rattle.serde_json.specs.Written.{compact_text}
use Rattle.lsp_model.specs.Positions.{Columns, utf16, bytes}
use Rattle.lsp_model.specs.Frames.{framed}
use Rattle.lsp_model.specs.Messages.{Choices, HoverForm, plaintext, markdown, Delivery, sent, asked_for, Range}

-- ---- what is answered

-- how grave a fault is
pub data Severity : Type 0 where
  an_error : Severity
  a_warning : Severity

-- a fault of a text, or of a document that isn't read, which has no kind
pub record Diagnostic : Type 0 where
  pub kind : Option (List ℕ)
  pub message : List ℕ
  pub range : Range
  pub severity : Severity

-- what a completed name stands for
pub data ItemKind : Type 0 where
  a_value : ItemKind
  a_constructor : ItemKind
  a_label : ItemKind
  a_type : ItemKind
  a_module : ItemKind
  a_module_type : ItemKind

-- a name that a word may become: its type, which may be empty, what it stands for, and itself
pub record Completion : Type 0 where
  pub detail : List ℕ
  pub kind : ItemKind
  pub name : List ℕ

-- what an item of a text binds
pub data SymbolKind : Type 0 where
  value_symbol : SymbolKind
  type_symbol : SymbolKind
  exception_symbol : SymbolKind
  module_symbol : SymbolKind
  module_type_symbol : SymbolKind

-- A bound name: what it stands for, the range of its item and that of the name, and what stands inside.
mutual
  pub data Symbol : Type 0 where
    symbol : SymbolKind → List ℕ → Range → Range → Symbols → Symbol

  -- such names, in order
  pub data Symbols : Type 0 where
    no_symbols : Symbols
    also : Symbol → Symbols → Symbols

-- a change that is proposed: cases, or a term, with the text that goes in place of a range
pub data Action : Type 0 where
  cases : List ℕ → Range → Action
  term : List ℕ → Range → Action

-- what a request is answered
pub data Answered : Type 0 where
  nothing_there : Answered
  chosen : Choices → Answered
  hovered : HoverForm → List ℕ → Range → Answered  -- how it is written, the type, and the range that has it
  completed : List Completion → Bool → Range → Answered  -- the names, whether there are others, and the range of the word
  located : List ℕ → ℕ × ℕ → Answered  -- a document and a position
  used : List ℕ → List Range → Answered  -- a document and ranges in it
  highlighted : List Range → Answered
  outlined : Symbols → Answered
  proposed : List ℕ → List Action → Answered  -- a document and changes of it
  reported : List Diagnostic → Answered

-- why a message has an error
pub data Wrong : Type 0 where
  no_json : Wrong
  no_message : Wrong
  too_long : Wrong
  no_such_method : Wrong
  wrong_params : Wrong
  short_of_memory : Wrong

-- What is put: an answer to a request, an error, which has an id where its message is a request, or the diagnostics of a document with the version of its text.
pub data Piece : Type 0 where
  result : Data → Answered → Piece
  error : Option Data → Wrong → Piece
  published : List ℕ → Option ℤ → List Diagnostic → Piece

-- ---- parts of answers as JSON

-- a number, in decimal digits
abbrev pub natural : ℕ → Data
natural n = number (unsigned n)

-- a list
abbrev pub list_data : List Data → Data
list_data ds = array (items_of ds)

-- {"character":C,"line":L}
abbrev pub position_data : ℕ × ℕ → Data
position_data p = object (member (codes "character") (natural p.1) (member (codes "line") (natural p.0) no_members))

-- {"end":P,"start":P}
abbrev pub range_data : Range → Data
range_data r = object (member (codes "end") (position_data r.1) (member (codes "start") (position_data r.0) no_members))

-- the number of a severity
abbrev pub severity_number : Severity → ℕ
severity_number an_error = 1
severity_number a_warning = 2

-- a key with a text, where there is one, before other members
abbrev pub with_text : List ℕ → Option (List ℕ) → Members → Members
with_text key None ms = ms
with_text key (Some s) ms = member key (string s) ms

-- {"code":K,"message":S,"range":R,"severity":N,"source":"ocaml"}, the first where there is a kind
abbrev pub diagnostic_data : Diagnostic → Data
diagnostic_data d =
    object (with_text (codes "code") d.kind (member (codes "message") (string d.message) (member (codes "range") (range_data d.range)
    (member (codes "severity") (natural (severity_number d.severity)) (member (codes "source") (string (codes "ocaml")) no_members)))))

-- diagnostics, one after another
abbrev pub diagnostics_data : List Diagnostic → Data
diagnostics_data ds = list_data (map diagnostic_data ds)

-- the number of what a completed name stands for
abbrev pub item_number : ItemKind → ℕ
item_number a_value = 12
item_number a_constructor = 4
item_number a_label = 5
item_number a_type = 7
item_number a_module = 9
item_number a_module_type = 8

-- a type, where it isn't empty
abbrev pub unless_empty : List ℕ → Option (List ℕ)
unless_empty [] = None
unless_empty (b ∷ bs) = Some (b ∷ bs)

-- {"newText":S,"range":R}
abbrev pub edit_data : Range → List ℕ → Data
edit_data range text = object (member (codes "newText") (string text) (member (codes "range") (range_data range) no_members))

-- {"detail":T,"kind":N,"label":X,"textEdit":E}, the first where it isn't empty
abbrev pub completion_data : Range → Completion → Data
completion_data range c =
    object (with_text (codes "detail") (unless_empty c.detail) (member (codes "kind") (natural (item_number c.kind))
    (member (codes "label") (string c.name) (member (codes "textEdit") (edit_data range c.name) no_members))))

-- {"range":R,"uri":U}
abbrev pub place_data : List ℕ → Range → Data
place_data uri range = object (member (codes "range") (range_data range) (member (codes "uri") (string uri) no_members))

-- {"range":R}
abbrev pub highlight_data : Range → Data
highlight_data range = object (member (codes "range") (range_data range) no_members)

-- the number of what an item binds
abbrev pub symbol_number : SymbolKind → ℕ
symbol_number value_symbol = 12
symbol_number type_symbol = 5
symbol_number exception_symbol = 9
symbol_number module_symbol = 2
symbol_number module_type_symbol = 11

-- {"children":C,"kind":N,"name":X,"range":R,"selectionRange":Q}
abbrev pub member_data : Data → SymbolKind → List ℕ → Range → Range → Data
member_data inside kind name range selection =
    object (member (codes "children") inside (member (codes "kind") (natural (symbol_number kind)) (member (codes "name") (string name)
    (member (codes "range") (range_data range) (member (codes "selectionRange") (range_data selection) no_members)))))

-- a bound name, and such names, in the same way
abbrev mutual
  pub symbol_data : Symbol → Data
  symbol_data (symbol kind name range selection inside) = member_data (array (symbol_items inside)) kind name range selection

  -- such names as the items of a list
  pub symbol_items : Symbols → Items
  symbol_items no_symbols = no_items
  symbol_items (also s ss) = item (symbol_data s) (symbol_items ss)

-- {"edit":{"changes":{U:[E]}},"kind":K,"title":X}
abbrev pub change_data : List ℕ → Range → List ℕ → List ℕ → List ℕ → Data
change_data uri range text kind title =
    object (member (codes "edit") (object (member (codes "changes") (object (member uri (array (item (edit_data range text) no_items)) no_members)) no_members))
    (member (codes "kind") (string kind) (member (codes "title") (string title) no_members)))

-- a term without a blank before it
abbrev pub without_blank : List ℕ → List ℕ
without_blank [] = []
without_blank (b ∷ bs) = if b == 32 then bs else b ∷ bs

-- a change that is proposed of a document
abbrev pub action_data : List ℕ → Action → Data
action_data uri (cases text range) = change_data uri range text (codes "refactor.rewrite") (codes "Case analysis")
action_data uri (term text range) = change_data uri range text (codes "quickfix") (codes "Insert " ++ without_blank text)

-- ---- what the service offers

-- what the service says columns count
abbrev pub columns_text : Columns → List ℕ
columns_text utf16 = codes "utf-16"
columns_text bytes = codes "utf-8"

-- how the service says that a hover is written
abbrev pub hover_text : HoverForm → List ℕ
hover_text plaintext = codes "plaintext"
hover_text markdown = codes "markdown"

-- that it is there
abbrev pub offered : Data
offered = boolean true

-- {"codeActionKinds":["quickfix","refactor.rewrite"]}
abbrev pub action_kinds : Data
action_kinds = object (member (codes "codeActionKinds") (list_data (string (codes "quickfix") ∷ string (codes "refactor.rewrite") ∷ [])) no_members)

-- {"triggerCharacters":["."]}
abbrev pub triggers : Data
triggers = object (member (codes "triggerCharacters") (list_data (string (codes ".") ∷ [])) no_members)

-- {"interFileDependencies":true,"workspaceDiagnostics":false}
abbrev pub diagnostic_offer : Data
diagnostic_offer = object (member (codes "interFileDependencies") (boolean true) (member (codes "workspaceDiagnostics") (boolean false) no_members))

-- {"change":2,"openClose":true}
abbrev pub sync : Data
sync = object (member (codes "change") (natural 2) (member (codes "openClose") (boolean true) no_members))

-- the last of the offers, in the order of their names
abbrev pub last_offers : Columns → Members
last_offers columns =
    member (codes "positionEncoding") (string (columns_text columns)) (member (codes "referencesProvider") offered (member (codes "textDocumentSync") sync no_members))

-- the offers after the diagnostics
abbrev pub later_offers : Columns → Members
later_offers columns =
    member (codes "documentHighlightProvider") offered (member (codes "documentSymbolProvider") offered (member (codes "hoverProvider") offered (last_offers columns)))

-- diagnostics are offered where they are asked for
abbrev pub diagnostic_offers : Delivery → Members → Members
diagnostic_offers sent ms = ms
diagnostic_offers asked_for ms = member (codes "diagnosticProvider") diagnostic_offer ms

-- what the service can do
abbrev pub capabilities : Choices → Data
capabilities c =
    object (member (codes "codeActionProvider") action_kinds (member (codes "completionProvider") triggers (member (codes "definitionProvider") offered
    (diagnostic_offers c.delivery (later_offers c.columns)))))

-- {"capabilities":C,"serverInfo":{"name":"ocaml_service"}}
abbrev pub chosen_data : Choices → Data
chosen_data c =
    object (member (codes "capabilities") (capabilities c) (member (codes "serverInfo") (object (member (codes "name") (string (codes "ocaml_service")) no_members)) no_members))

-- ---- answers as JSON

-- a type as a hover writes it; in Markdown it is a block of OCaml
abbrev pub hover_value : HoverForm → List ℕ → List ℕ
hover_value plaintext text = text
hover_value markdown text = codes "```ocaml\n" ++ text ++ codes "\n```"

-- {"contents":{"kind":K,"value":T},"range":R}
abbrev pub hover_data : HoverForm → List ℕ → Range → Data
hover_data form text range =
    object (member (codes "contents") (object (member (codes "kind") (string (hover_text form)) (member (codes "value") (string (hover_value form text)) no_members)))
    (member (codes "range") (range_data range) no_members))

-- {"isIncomplete":B,"items":[..]}
abbrev pub completions_data : List Data → Bool → Data
completions_data items more = object (member (codes "isIncomplete") (boolean more) (member (codes "items") (list_data items) no_members))

-- {"items":[..],"kind":"full"}
abbrev pub report_data : Data → Data
report_data list = object (member (codes "items") list (member (codes "kind") (string (codes "full")) no_members))

-- the result of a request
abbrev pub answered_data : Answered → Data
answered_data nothing_there = null
answered_data (chosen c) = chosen_data c
answered_data (hovered form text range) = hover_data form text range
answered_data (completed cs more range) = completions_data (map (completion_data range) cs) more
answered_data (located uri at) = place_data uri (at, at)
answered_data (used uri rs) = list_data (map (place_data uri) rs)
answered_data (highlighted rs) = list_data (map highlight_data rs)
answered_data (outlined ss) = array (symbol_items ss)
answered_data (proposed uri cs) = list_data (map (action_data uri) cs)
answered_data (reported ds) = report_data (diagnostics_data ds)

-- the code of an error, which is negative
abbrev pub wrong_code : Wrong → ℤ
wrong_code no_json = negsuc 32699
wrong_code no_message = negsuc 32599
wrong_code too_long = negsuc 32599
wrong_code no_such_method = negsuc 32600
wrong_code wrong_params = negsuc 32601
wrong_code short_of_memory = negsuc 32602

-- the message of an error
abbrev pub wrong_text : Wrong → List ℕ
wrong_text no_json = codes "parse"
wrong_text no_message = codes "invalid"
wrong_text too_long = codes "too long"
wrong_text no_such_method = codes "unknown method"
wrong_text wrong_params = codes "params"
wrong_text short_of_memory = codes "memory"

-- {"code":C,"message":M}
abbrev pub wrong_data : Wrong → Data
wrong_data w = object (member (codes "code") (number (of_integer (wrong_code w))) (member (codes "message") (string (wrong_text w)) no_members))

-- the version of the protocol under all of it
abbrev pub protocol : Data
protocol = string (codes "2.0")

-- an id, or null
abbrev pub id_data : Option Data → Data
id_data None = null
id_data (Some id) = id

-- a version, where there is one
abbrev pub version_members : Option ℤ → Members
version_members None = no_members
version_members (Some z) = member (codes "version") (number (of_integer z)) no_members

-- {"diagnostics":[..],"uri":U,"version":V}, the last where there is a version
abbrev pub published_data : List ℕ → Option ℤ → List Diagnostic → Data
published_data uri version ds = object (member (codes "diagnostics") (diagnostics_data ds) (member (codes "uri") (string uri) (version_members version)))

-- what is put, as JSON
abbrev pub piece_data : Piece → Data
piece_data (result id a) = object (member (codes "id") id (member (codes "jsonrpc") protocol (member (codes "result") (answered_data a) no_members)))
piece_data (error id w) = object (member (codes "error") (wrong_data w) (member (codes "id") (id_data id) (member (codes "jsonrpc") protocol no_members)))
piece_data (published uri version ds) =
    object (member (codes "jsonrpc") protocol (member (codes "method") (string (codes "textDocument/publishDiagnostics")) (member (codes "params") (published_data uri version ds) no_members)))

-- what is put, as bytes
unfoldable pub bytes_put : Piece → List ℕ
bytes_put p = framed (compact_text (piece_data p))
