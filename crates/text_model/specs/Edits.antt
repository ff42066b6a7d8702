-- Edits of a text: when one is refused, and what it makes of the text.
use Rattle.std.specs.Prelude.{ℕ, List, ◌++◌, length, take, drop, slice_index, Bool, true, false, ◌&&◌, nat_le, nat_lt, if◌then◌else◌, Option, Some, None}
use Rattle.text_model.specs.Positions.{offset}

-- the most bytes that a text may have
abbrev pub text_limit : ℕ
text_limit = 1048576

-- the positions of an edit's ends, each a line from 1 and a column in bytes from 0, and the bytes that go between them
pub record Edit : Type 0 where
  pub start : ℕ × ℕ
  pub end : ℕ × ℕ
  pub bytes : List ℕ

-- Why an edit is refused. A flag is true where it is about the edit's end, and false where it is about its start; a number is the length in bytes that the new text would have.
pub data Refusal : Type 0 where
  bad_position : Bool → Refusal
  bad_range : Refusal
  splits_char : Bool → Refusal
  text_too_long : ℕ → Refusal

-- what comes of an edit: it is refused, or it changes the text from an offset on, and this is the new text
pub data Outcome : Type 0 where
  refused : Refusal → Outcome
  changed : ℕ → List ℕ → Outcome

-- the text before one place, then the bytes, then the text from the other place
abbrev pub apply : List ℕ → ℕ → ℕ → List ℕ → List ℕ
apply text start end bytes = take start text ++ bytes ++ drop end text

-- whether a place stands inside a character: the byte there, from 128 to 191, goes on with one
abbrev pub is_inside_char : List ℕ → ℕ → Bool
is_inside_char text n = nat_le 128 (slice_index text n) && nat_lt (slice_index text n) 192

-- What comes of an edit between two places; a place may be missing. The first refusal that applies, in this order, is the one given.
abbrev pub outcome_between : List ℕ → Option ℕ → Option ℕ → List ℕ → Outcome
outcome_between text None end bytes = refused (bad_position false)
outcome_between text (Some start) None bytes = refused (bad_position true)
outcome_between text (Some start) (Some end) bytes =
    if nat_lt end start then refused bad_range
    else if is_inside_char text start then refused (splits_char false)
    else if is_inside_char text end then refused (splits_char true)
    else if nat_lt text_limit (length (apply text start end bytes)) then refused (text_too_long (length (apply text start end bytes)))
    else changed start (apply text start end bytes)

-- what comes of an edit of a text
unfoldable pub outcome_of : List ℕ → Edit → Outcome
outcome_of text e = outcome_between text (offset text e.start.0 e.start.1) (offset text e.end.0 e.end.1) e.bytes
