-- What a request line asks, over the JSON value that it is.
use Rattle.std.specs.Prelude.{ℕ, ◌^◌, List, [], ◌∷◌, ◌++◌, length, find, Bool, false, not, codes, Option, Some, None, option_and_then, option_map, unwrap_or, if◌then◌else◌, nat_lt, is_some, ◌||◌}
use Rattle.std.specs.Option.{option_or}
use Rattle.std.specs.Str.{bytes_eq, is_utf8}
use Rattle.serde_json.specs.Data.{Num, Data}
use Rattle.serde_json.specs.Find.{get, as_number, as_object, as_u64, as_str}
use Rattle.serde_json.specs.Read.{read}

-- What is asked. A position is its line, from 1, and its column in bytes, from 0.
pub data Asked : Type 0 where
  tell : Option ((ℕ × ℕ) × (ℕ × ℕ)) → List ℕ → Asked  -- the text goes between two positions, or in place of the whole text
  type_enclosing : ℕ × ℕ → Asked
  complete_prefix : ℕ × ℕ → List ℕ → Asked
  locate : ℕ × ℕ → Asked
  occurrences : ℕ × ℕ → Asked
  outline : Asked
  errors : Asked
  case_analysis : ℕ × ℕ → Asked
  construct : ℕ × ℕ → Asked

-- why a line is no request, in the order in which they are told
pub data Refusal : Type 0 where
  line_too_long : Refusal
  not_json : Refusal
  not_a_request : Refusal
  unknown_query : Refusal
  missing_key : List ℕ → Refusal
  bad_number : List ℕ → Refusal

-- a line, as a request or as a refusal
pub data Reading : Type 0 where
  asks : Asked → Reading
  refused : Refusal → Reading

-- ---- the keys of a request

-- the kind of JSON value that a key must have
pub data Kind : Type 0 where
  an_object : Kind
  a_number : Kind
  a_string : Kind

-- a key: the names that lead to its value from the request's object, and the kind of its value
pub record Key : Type 0 where
  pub path : List (List ℕ)
  pub kind : Kind

-- names with points between them
abbrev pub dotted : List (List ℕ) → List ℕ
dotted [] = []
dotted (n ∷ []) = n
dotted (n ∷ m ∷ ns) = n ++ 46 ∷ dotted (m ∷ ns)

-- the name of a key in a refusal, as `at.line`
abbrev pub key_name : Key → List ℕ
key_name k = dotted k.path

-- the value that the names lead to, one inside the other
abbrev pub value_at : List (List ℕ) → Data → Option Data
value_at [] d = Some d
value_at (n ∷ ns) d = option_and_then (value_at ns) (get n d)

-- the value is of the kind
abbrev pub is_of_kind : Kind → Data → Bool
is_of_kind an_object d = is_some (as_object d)
is_of_kind a_number d = is_some (as_number d)
is_of_kind a_string d = is_some (as_str d)

-- there is a value, and it is of the kind
abbrev pub has_kind : Kind → Option Data → Bool
has_kind kind None = false
has_kind kind (Some d) = is_of_kind kind d

-- the key is absent or of another kind
abbrev pub is_missing : Data → Key → Bool
is_missing d k = not (has_kind k.kind (value_at k.path d))

-- a number below 2^32
abbrev pub small : ℕ → Option ℕ
small n = if nat_lt n (2 ^ 32) then Some n else None

-- a number that is written in decimal digits alone, below 2^32
abbrev pub small_number : Num → Option ℕ
small_number n = option_and_then small (as_u64 n)

-- the number that a value is, where it is decimal digits alone, below 2^32
abbrev pub number_in : Option Data → Option ℕ
number_in v = option_and_then small_number (option_and_then as_number v)

-- whether a key of the kind wants a number, and there is none
abbrev pub is_unread : Kind → Option ℕ → Bool
is_unread an_object n = false
is_unread a_number n = not (is_some n)
is_unread a_string n = false

-- the key is one of a number, and its value isn't decimal digits alone, below 2^32
abbrev pub is_bad : Data → Key → Bool
is_bad d k = is_unread k.kind (number_in (value_at k.path d))

-- the name of the first key that is missing
unfoldable pub first_missing : List Key → Data → Option (List ℕ)
first_missing keys d = option_map key_name (find (is_missing d) keys)

-- the name of the first key whose number is bad
unfoldable pub first_bad : List Key → Data → Option (List ℕ)
first_bad keys d = option_map key_name (find (is_bad d) keys)

-- Why the keys are refused: the first that is missing, or else the first whose number is bad.
abbrev pub refusal_of : List Key → Data → Option Refusal
refusal_of keys d = option_or (option_map missing_key (first_missing keys d)) (option_map bad_number (first_bad keys d))

-- the key of an object
abbrev pub object_key : List ℕ → Key
object_key name = record { path = name ∷ []; kind = an_object }

-- the number at a name inside the object at another
abbrev pub number_key : List ℕ → List ℕ → Key
number_key name inner = record { path = name ∷ inner ∷ []; kind = a_number }

-- the key of a text
abbrev pub text_key : List ℕ → Key
text_key name = record { path = name ∷ []; kind = a_string }

-- the keys of a position: the object, its line, its column
unfoldable pub position_keys : List ℕ → List Key
position_keys name = object_key name ∷ number_key name (codes "line") ∷ number_key name (codes "col") ∷ []

-- the keys of a text: itself alone
unfoldable pub text_keys : List ℕ → List Key
text_keys name = text_key name ∷ []

-- the number at a key, 0 where there is none
abbrev pub number_at : Key → Data → ℕ
number_at k d = unwrap_or (number_in (value_at k.path d)) 0

-- the position at a key
unfoldable pub position_at : List ℕ → Data → ℕ × ℕ
position_at name d = (number_at (number_key name (codes "line")) d, number_at (number_key name (codes "col")) d)

-- the text at a key, empty where there is none
abbrev pub text_at : List ℕ → Data → List ℕ
text_at name d = unwrap_or (option_and_then as_str (get name d)) []

-- ---- what a line asks

-- what is asked, where the keys aren't refused
abbrev pub unless : Option Refusal → Asked → Reading
unless (Some r) a = refused r
unless None a = asks a

-- the key is there, whatever its value
abbrev pub has : List ℕ → Data → Bool
has name d = is_some (get name d)

-- a text between two positions
abbrev pub reading_of_edit : Data → Reading
reading_of_edit d =
    unless (refusal_of (position_keys (codes "start") ++ position_keys (codes "end") ++ text_keys (codes "text")) d)
    (tell (Some (position_at (codes "start") d, position_at (codes "end") d)) (text_at (codes "text") d))

-- a text in place of the whole
abbrev pub reading_of_whole : Data → Reading
reading_of_whole d = unless (refusal_of (text_keys (codes "text")) d) (tell None (text_at (codes "text") d))

-- With one of `start` and `end` there, both are wanted.
abbrev pub reading_of_tell : Data → Reading
reading_of_tell d = if has (codes "start") d || has (codes "end") d then reading_of_edit d else reading_of_whole d

-- a query of the position `at`
abbrev pub reading_of_place : (ℕ × ℕ → Asked) → Data → Reading
reading_of_place query d = unless (refusal_of (position_keys (codes "at")) d) (query (position_at (codes "at") d))

-- a query of the position `at` and the text `prefix`
abbrev pub reading_of_prefix : Data → Reading
reading_of_prefix d =
    unless (refusal_of (position_keys (codes "at") ++ text_keys (codes "prefix")) d)
    (complete_prefix (position_at (codes "at") d) (text_at (codes "prefix") d))

-- a request of this name
unfoldable pub reading_of_query : List ℕ → Data → Reading
reading_of_query name d =
    if bytes_eq name (codes "tell") then reading_of_tell d
    else if bytes_eq name (codes "type-enclosing") then reading_of_place type_enclosing d
    else if bytes_eq name (codes "complete-prefix") then reading_of_prefix d
    else if bytes_eq name (codes "locate") then reading_of_place locate d
    else if bytes_eq name (codes "occurrences") then reading_of_place occurrences d
    else if bytes_eq name (codes "outline") then asks outline
    else if bytes_eq name (codes "errors") then asks errors
    else if bytes_eq name (codes "case-analysis") then reading_of_place case_analysis d
    else if bytes_eq name (codes "construct") then reading_of_place construct d
    else refused unknown_query

-- a request's name is its text `query`
abbrev pub reading_of_name : Option (List ℕ) → Data → Reading
reading_of_name (Some name) d = reading_of_query name d
reading_of_name None d = refused not_a_request

-- a value, where the line is one
abbrev pub reading_of_value : Option Data → Reading
reading_of_value (Some d) = reading_of_name (option_and_then as_str (get (codes "query") d)) d
reading_of_value None = refused not_json

-- a line within the limit
unfoldable pub reading_of_json : List ℕ → Reading
reading_of_json line = if is_utf8 line then reading_of_value (read line) else refused not_json

-- how many bytes a line may have
abbrev pub line_limit : ℕ
line_limit = 8388608

-- what a line asks
unfoldable pub reading : List ℕ → Reading
reading line = if nat_lt line_limit (length line) then refused line_too_long else reading_of_json line
