-- Positions as an editor counts them: lines and columns from 0, over the bytes of a text in UTF-8.
use Rattle.std.specs.Prelude.{ℕ, ◌+◌, ◌-◌, ◌==◌, ◌&&◌, List, [], ◌∷◌, drop, Bool, nat_eq, nat_le, nat_lt, if◌then◌else◌}

-- what a column counts: units of UTF-16, or bytes
pub data Columns : Type 0 where
  utf16 : Columns
  bytes : Columns

-- the most bytes that a text may have
abbrev pub text_limit : ℕ
text_limit = 1048576

-- the byte that ends a line; no other byte does
abbrev pub line_feed : ℕ
line_feed = 10

-- whether a byte goes on with a character that has begun
abbrev pub continues : ℕ → Bool
continues b = nat_le 128 b && nat_lt b 192

-- how many columns a character takes, by its first byte
abbrev pub width : Columns → ℕ → ℕ
width utf16 b = if nat_lt b 240 then 1 else 2
width bytes b = if nat_lt b 128 then 1 else if nat_lt b 224 then 2 else if nat_lt b 240 then 3 else 4

-- how many bytes are before the line of a number; past the last line, all of them
abbrev pub line_place : ℕ → List ℕ → ℕ
line_place line [] = 0
line_place line (b ∷ bs) = if nat_eq line 0 then 0 else 1 + line_place (if b == line_feed then line - 1 else line) bs

-- How many bytes are before a column of the first line. Past the line's end it is that end, and inside a character the character's start.
abbrev pub column_place : Columns → ℕ → List ℕ → ℕ
column_place by column [] = 0
column_place by column (b ∷ bs) =
    if b == line_feed then 0
    else if continues b then 1 + column_place by column bs
    else if nat_lt column (width by b) then 0
    else 1 + column_place by (column - width by b) bs

-- the offset of a position in a text
unfoldable pub offset_at : Columns → ℕ → ℕ → List ℕ → ℕ
offset_at by line column text = line_place line text + column_place by column (drop (line_place line text) text)

-- how many columns a byte adds: the first byte of a character adds all of them
abbrev pub columns_of : Columns → ℕ → ℕ
columns_of by b = if continues b then 0 else width by b

-- how many columns the first bytes of a line add, so many of them
abbrev pub columns_before : Columns → ℕ → List ℕ → ℕ
columns_before by n [] = 0
columns_before by n (b ∷ bs) = if nat_eq n 0 then 0 else columns_of by b + columns_before by (n - 1) bs

-- the position behind so many bytes, the first of which is at a line and a column
abbrev pub position_from : Columns → ℕ → ℕ → ℕ → List ℕ → ℕ × ℕ
position_from by line column n [] = (line, column)
position_from by line column n (b ∷ bs) =
    if nat_eq n 0 then (line, column)
    else if b == line_feed then position_from by (line + 1) 0 (n - 1) bs
    else position_from by line (column + columns_of by b) (n - 1) bs

-- the position of an offset that isn't inside a character
unfoldable pub position_at : Columns → ℕ → List ℕ → ℕ × ℕ
position_at by offset text = position_from by 0 0 offset text
