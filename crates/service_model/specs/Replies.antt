-- Replies, as JSON values and as lines of bytes.
use Rattle.std.specs.Prelude.{ℕ, Bool, List, [], ◌∷◌, ◌++◌, codes, map}
use Rattle.serde_json.specs.Data.{Data, boolean, number, unsigned, string, array, object, Items, no_items, item, member, no_members}
use Rattle.serde_json.specs.View.{items_of}
use Rattle.serde_json.specs.Written.{compact_text}
use Rattle.service_model.specs.Requests.{Refusal, line_too_long, not_json, not_a_request, unknown_query, missing_key, bad_number}

-- a typed span: where it starts and ends, by line and column, and its type
pub record Typed : Type 0 where
  pub start : ℕ × ℕ
  pub end : ℕ × ℕ
  pub type_text : List ℕ

-- a name that a prefix may become: its type, or nothing, its kind and itself
pub record Entry : Type 0 where
  pub desc : List ℕ
  pub kind : List ℕ
  pub name : List ℕ

-- a fault: where it starts and ends, its kind, its message, and what tells it: parser, typer or warning
pub record Fault : Type 0 where
  pub start : ℕ × ℕ
  pub end : ℕ × ℕ
  pub kind : List ℕ
  pub message : List ℕ
  pub source : List ℕ

-- What a text binds, in order, with what stands inside: where its item starts and ends, its kind and its name.
mutual
  pub data Outlined : Type 0 where
    outlined : ℕ × ℕ → ℕ × ℕ → List ℕ → List ℕ → Outline → Outlined

  -- the members of an outline, in order
  pub data Outline : Type 0 where
    no_more : Outline
    next : Outlined → Outline → Outline

-- What is said to a line.
pub data Said : Type 0 where
  -- class return
  size : ℕ → Said  -- how many bytes the new text has
  types : List Typed → Said  -- innermost first
  entries : List Entry → Bool → Said  -- whether there are others
  place : List ℕ → ℕ × ℕ → Said  -- a file, and a position in it
  spans : List ((ℕ × ℕ) × (ℕ × ℕ)) → Said  -- starts and ends, in text order
  outline : Outline → Said
  faults : List Fault → Bool → Said  -- whether there are others
  split : ℕ × ℕ → ℕ × ℕ → List ℕ → Said  -- from start to end, the text to put there
  terms : ℕ × ℕ → ℕ × ℕ → List (List ℕ) → Said  -- from start to end, the texts that may be put there
  -- class failure
  no_node : Said
  not_a_name : Said
  unbound : List ℕ → Said  -- what is bound nowhere
  nothing_to_split : Said
  hidden_constructor : List ℕ → Said  -- the constructor or label
  would_fault : ℕ × ℕ → Said  -- where
  not_a_hole : Said
  -- class error
  refused : Refusal → Said
  bad_position : List ℕ → Said  -- the key
  bad_range : Said
  splits_char : List ℕ → Said  -- the key
  text_too_long : ℕ → Said  -- how many bytes the new text would have
  -- class memory
  no_memory : Said

-- ---- parts of replies

-- a number, in decimal digits
abbrev pub natural : ℕ → Data
natural n = number (unsigned n)

-- {"col":C,"line":L}
abbrev pub position_data : ℕ × ℕ → Data
position_data p = object (member (codes "col") (natural p.1) (member (codes "line") (natural p.0) no_members))

-- {"end":P,"start":P,"type":T}
abbrev pub typed_data : Typed → Data
typed_data t = object (member (codes "end") (position_data t.end) (member (codes "start") (position_data t.start) (member (codes "type") (string t.type_text) no_members)))

-- {"desc":T,"kind":K,"name":N}
abbrev pub entry_data : Entry → Data
entry_data e = object (member (codes "desc") (string e.desc) (member (codes "kind") (string e.kind) (member (codes "name") (string e.name) no_members)))

-- {"end":P,"kind":K,"message":S,"start":P,"type":W}
abbrev pub fault_data : Fault → Data
fault_data f =
    object (member (codes "end") (position_data f.end) (member (codes "kind") (string f.kind) (member (codes "message") (string f.message)
    (member (codes "start") (position_data f.start) (member (codes "type") (string f.source) no_members)))))

-- {"end":P,"start":P}
abbrev pub span_data : (ℕ × ℕ) × (ℕ × ℕ) → Data
span_data s = object (member (codes "end") (position_data s.1) (member (codes "start") (position_data s.0) no_members))

-- {"children":C,"end":P,"kind":K,"name":N,"start":P}
abbrev pub member_data : Data → ℕ × ℕ → ℕ × ℕ → List ℕ → List ℕ → Data
member_data children start end kind name =
    object (member (codes "children") children (member (codes "end") (position_data end) (member (codes "kind") (string kind)
    (member (codes "name") (string name) (member (codes "start") (position_data start) no_members)))))

-- an outline as a list of its members, and they in the same way
abbrev mutual
  pub outlined_data : Outlined → Data
  outlined_data (outlined start end kind name inner) = member_data (array (outline_items inner)) start end kind name

  -- the members of an outline as the items of an array
  pub outline_items : Outline → Items
  outline_items no_more = no_items
  outline_items (next o os) = item (outlined_data o) (outline_items os)

-- [D,..]
abbrev pub list_data : List Data → Data
list_data ds = array (items_of ds)

-- {NAME:[..],"more":B}; the name stands before `more`
abbrev pub page_data : List ℕ → List Data → Bool → Data
page_data name ds more = object (member name (list_data ds) (member (codes "more") (boolean more) no_members))

-- {"file":F,"pos":P}
abbrev pub place_data : List ℕ → ℕ × ℕ → Data
place_data file pos = object (member (codes "file") (string file) (member (codes "pos") (position_data pos) no_members))

-- {"end":P,"start":P,"text":S}
abbrev pub split_data : ℕ × ℕ → ℕ × ℕ → List ℕ → Data
split_data start end text = object (member (codes "end") (position_data end) (member (codes "start") (position_data start) (member (codes "text") (string text) no_members)))

-- {"end":P,"start":P,"texts":[S]}
abbrev pub terms_data : ℕ × ℕ → ℕ × ℕ → List (List ℕ) → Data
terms_data start end texts = object (member (codes "end") (position_data end) (member (codes "start") (position_data start) (member (codes "texts") (list_data (map string texts)) no_members)))

-- ---- replies

-- {"class":C,"value":V}
abbrev pub classed : List ℕ → Data → Data
classed class value = object (member (codes "class") (string class) (member (codes "value") value no_members))

-- {"class":"return","value":V}
abbrev pub returned : Data → Data
returned value = classed (codes "return") value

-- {"name":N}
abbrev pub named : List ℕ → Data
named name = object (member (codes "name") (string name) no_members)

-- {"key":K,"name":N}
abbrev pub keyed : List ℕ → List ℕ → Data
keyed name key = object (member (codes "key") (string key) (member (codes "name") (string name) no_members))

-- {"class":"failure","value":V}
abbrev pub failed : Data → Data
failed value = classed (codes "failure") value

-- {"class":"error","value":V}
abbrev pub wrong : Data → Data
wrong value = classed (codes "error") value

-- the value that tells a refusal
abbrev pub refusal_data : Refusal → Data
refusal_data line_too_long = named (codes "LineTooLong")
refusal_data not_json = named (codes "NotJson")
refusal_data not_a_request = named (codes "NotARequest")
refusal_data unknown_query = named (codes "UnknownQuery")
refusal_data (missing_key key) = keyed (codes "MissingKey") key
refusal_data (bad_number key) = keyed (codes "BadNumber") key

-- the value that a reply is
abbrev pub said_data : Said → Data
said_data (size n) = returned (natural n)
said_data (types ts) = returned (list_data (map typed_data ts))
said_data (entries es more) = returned (page_data (codes "entries") (map entry_data es) more)
said_data (place file pos) = returned (place_data file pos)
said_data (spans ss) = returned (list_data (map span_data ss))
said_data (outline o) = returned (array (outline_items o))
said_data (faults fs more) = returned (page_data (codes "list") (map fault_data fs) more)
said_data (split start end text) = returned (split_data start end text)
said_data (terms start end texts) = returned (terms_data start end texts)
said_data no_node = failed (named (codes "NoNode"))
said_data not_a_name = failed (named (codes "NotAName"))
said_data (unbound ident) = failed (object (member (codes "ident") (string ident) (member (codes "name") (string (codes "Unbound")) no_members)))
said_data nothing_to_split = failed (named (codes "NothingToSplit"))
said_data (hidden_constructor name) = failed (object (member (codes "constructor") (string name) (member (codes "name") (string (codes "HiddenConstructor")) no_members)))
said_data (would_fault at) = failed (object (member (codes "at") (position_data at) (member (codes "name") (string (codes "WouldFault")) no_members)))
said_data not_a_hole = failed (named (codes "NotAHole"))
said_data (refused r) = wrong (refusal_data r)
said_data (bad_position key) = wrong (keyed (codes "BadPosition") key)
said_data bad_range = wrong (named (codes "BadRange"))
said_data (splits_char key) = wrong (keyed (codes "SplitsChar") key)
said_data (text_too_long n) = wrong (object (member (codes "bytes") (natural n) (member (codes "name") (string (codes "TextTooLong")) no_members)))
said_data no_memory = object (member (codes "class") (string (codes "memory")) no_members)

-- the line of a reply, with its line feed
unfoldable pub line_of : Said → List ℕ
line_of s = compact_text (said_data s) ++ 10 ∷ []

-- the line that stands for want of memory
abbrev pub memory_line : List ℕ
memory_line = line_of no_memory
