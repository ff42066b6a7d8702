-- Places in a text: offsets in bytes from 0, and positions by line from 1 and column in bytes from 0.
use Rattle.std.specs.Prelude.{ℕ, zero, suc, ◌+◌, ◌-◌, List, [], ◌∷◌, length, if◌then◌else◌, nat_le, Option, Some, None, option_map}
use Rattle.text_model.specs.Lines.{lines_of}

-- The place of a column in one of these lines, the first of which has the number 0. It exists where the line exists and the column is at most the line's length.
abbrev pub offset_in : List (List ℕ) → ℕ → ℕ → Option ℕ
offset_in [] line col = None
offset_in (l ∷ ls) zero col = if nat_le col (length l) then Some col else None
offset_in (l ∷ ls) (suc line) col = option_map (λ n. length l + 1 + n) (offset_in ls line col)

-- the offset of a position; lines count from 1
unfoldable pub offset : List ℕ → ℕ → ℕ → Option ℕ
offset text zero col = None
offset text (suc line) col = offset_in (lines_of text) line col

-- the line and the column behind so many bytes of these lines, the first of which has the number `line`
abbrev pub position_in : ℕ → List (List ℕ) → ℕ → ℕ × ℕ
position_in line [] n = (line, n)
position_in line (l ∷ ls) n = if nat_le n (length l) then (line, n) else position_in (line + 1) ls (n - (length l + 1))

-- the line and the column of an offset up to the text's length
unfoldable pub position_of : List ℕ → ℕ → ℕ × ℕ
position_of text n = position_in 1 (lines_of text) n
