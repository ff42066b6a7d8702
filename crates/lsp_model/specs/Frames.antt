-- Frames: a block of header lines that says how long a body is, and the body.
use Rattle.std.specs.Prelude.{ℕ, ◌+◌, ◌-◌, ◌*◌, ◌==◌, ◌&&◌, ◌||◌, List, [], ◌∷◌, ◌++◌, length, take, drop, map, slice_index, Bool, nat_le, nat_lt, if◌then◌else◌, Option, Some, None, codes, decimal}
use Rattle.std.specs.List.{list_all}
use Rattle.std.specs.Char.{to_ascii_lowercase}
use Rattle.std.specs.Str.{bytes_eq}
use Rattle.lsp_model.specs.Positions.{line_feed}

-- the most bytes that a block may have, its empty line among them
abbrev pub head_limit : ℕ
head_limit = 4096

-- the most bytes that a body may have; a longer one is passed over
abbrev pub body_limit : ℕ
body_limit = 8388608

-- the byte before a line feed at the end of a header line
abbrev pub carriage_return : ℕ
carriage_return = 13

-- ---- one header line

-- a line begins with the name of the one header that counts, in small letters or large ones
abbrev pub has_length : List ℕ → Bool
has_length line = bytes_eq (map to_ascii_lowercase (take 15 line)) (codes "content-length:")

-- a blank or a tab
abbrev pub is_blank : ℕ → Bool
is_blank b = b == 32 || b == 9

-- a decimal digit
abbrev pub is_digit : ℕ → Bool
is_digit b = nat_le 48 b && nat_le b 57

-- how many bytes of a kind a text begins with
abbrev pub front_run : (ℕ → Bool) → List ℕ → ℕ
front_run test [] = 0
front_run test (b ∷ bs) = if test b then 1 + front_run test bs else 0

-- the number that digits are, `n` being that of the digits before them
abbrev pub number_from : ℕ → List ℕ → ℕ
number_from n [] = n
number_from n (b ∷ bs) = number_from (n * 10 + (b - 48)) bs

-- a number of 1 to 10 digits, with blanks alone behind it
abbrev pub number_in : List ℕ → Option ℕ
number_in text =
    if nat_le 1 (front_run is_digit text) && nat_le (front_run is_digit text) 10 && list_all is_blank (drop (front_run is_digit text) text)
    then Some (number_from 0 (take (front_run is_digit text) text)) else None

-- the number of a line behind the header's name and blanks
abbrev pub length_in : List ℕ → Option ℕ
length_in line = number_in (drop (front_run is_blank (drop 15 line)) (drop 15 line))

-- ---- a block

-- what the lines of a block say of the body's length: nothing, a number, or something that isn't allowed
pub data Told : Type 0 where
  nothing : Told
  told : ℕ → Told
  wrong : Told

-- what they say with one more number, which may be unreadable: one number alone is allowed
abbrev pub with_number : Told → Option ℕ → Told
with_number nothing (Some n) = told n
with_number nothing None = wrong
with_number (told m) n = wrong
with_number wrong n = wrong

-- what they say with one more line; a line of another header says nothing
unfoldable pub with_line : Told → List ℕ → Told
with_line t line = if has_length line then with_number t (length_in line) else t

-- whether a line feed behind these bytes ends a header line
abbrev pub ends_line : List ℕ → ℕ → Bool
ends_line line b = b == line_feed && nat_lt 0 (length line) && slice_index line (length line - 1) == carriage_return

-- The end of the block and what its lines say, if the block ends in these bytes. The first of them is at `at`, `line` is what is before it on its line, and `t` is what the lines before say.
abbrev pub block_from : ℕ → Told → List ℕ → List ℕ → Option (ℕ × Told)
block_from at t line [] = None
block_from at t line (b ∷ bs) =
    if ends_line line b then (if length line == 1 then Some (at + 1, t) else block_from (at + 1) (with_line t (take (length line - 1) line)) [] bs)
    else block_from (at + 1) t (line ++ b ∷ []) bs

-- ---- frames

-- What some bytes begin with: a whole message, with the bytes of its head and of its body; a message that is too long; the front of a message; or something that is none.
pub data Frame : Type 0 where
  whole : ℕ → ℕ → Frame
  over : ℕ → ℕ → Frame
  more : Frame
  bad : Frame

-- what so many bytes begin with, the block and what it says given
abbrev pub frame_behind : ℕ → ℕ → Told → Frame
frame_behind count head nothing = bad
frame_behind count head (told body) = if nat_lt body_limit body then over head body else if nat_le (head + body) count then whole head body else more
frame_behind count head wrong = bad

-- what they begin with, by the block if it has ended; one that goes on is bad once it is as long as it may be
abbrev pub frame_by : ℕ → Option (ℕ × Told) → Frame
frame_by count None = if nat_lt count head_limit then more else bad
frame_by count (Some b) = frame_behind count b.0 b.1

-- what some bytes begin with
unfoldable pub frame : List ℕ → Frame
frame bytes = frame_by (length bytes) (block_from 0 nothing [] (take head_limit bytes))

-- ---- what is put

-- a body with its head
abbrev pub framed : List ℕ → List ℕ
framed body = codes "Content-Length: " ++ decimal (length body) ++ codes "\r\n\r\n" ++ body
