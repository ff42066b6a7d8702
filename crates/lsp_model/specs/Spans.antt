-- Which part of a text is shown for a span, and which place is asked for a cursor.
use Rattle.std.specs.Prelude.{ℕ, zero, suc, ◌+◌, ◌-◌, ◌==◌, ◌&&◌, ◌||◌, List, length, drop, slice_index, Bool, not, nat_le, nat_lt, if◌then◌else◌}
use Rattle.lsp_model.specs.Positions.{continues, line_feed}
use Rattle.lsp_model.specs.Frames.{front_run, is_digit}

-- ---- runs of bytes before and after a place

-- where the bytes of a kind that end at a place begin
abbrev pub run_start : (ℕ → Bool) → List ℕ → ℕ → ℕ
run_start test text zero = zero
run_start test text (suc n) = if test (slice_index text n) then run_start test text n else suc n

-- ---- the span that is shown

-- whether a byte ends a line, or stands before one that does
abbrev pub is_break : ℕ → Bool
is_break b = b == line_feed || b == 13

-- The start of the character that ends at a place after the text's start: the byte before those that go on with it.
abbrev pub char_start : List ℕ → ℕ → ℕ
char_start text end = run_start continues text end - 1

-- the end of the character that begins at a place before the text's end
abbrev pub char_end : List ℕ → ℕ → ℕ
char_end text start = start + 1 + front_run continues (drop (start + 1) text)

-- an empty span as the character before it, of which there is one, or the one behind it, or as it is
abbrev pub shown_empty : List ℕ → ℕ → ℕ → ℕ × ℕ
shown_empty text at before =
    if nat_lt 0 before then (char_start text before, before)
    else if nat_lt at (length text) && not (slice_index text at == line_feed) then (at, char_end text at)
    else (at, at)

-- The span that is shown for one of a text. An empty one is shown as the nearest character before it that is no part of a line's end; where there is none, as the character behind it.
unfoldable pub shown_span : List ℕ → ℕ × ℕ → ℕ × ℕ
shown_span text s = if nat_lt s.0 s.1 then s else shown_empty text s.0 (run_start is_break text s.0)

-- ---- the place that is asked

-- a small letter
abbrev pub is_lower : ℕ → Bool
is_lower b = nat_le 97 b && nat_le b 122

-- a large letter
abbrev pub is_upper : ℕ → Bool
is_upper b = nat_le 65 b && nat_le b 90

-- a letter, a digit, `_` or `'`
abbrev pub is_name_byte : ℕ → Bool
is_name_byte b = is_lower b || is_upper b || is_digit b || b == 95 || b == 39

-- a name ends at a place, and none goes on there
abbrev pub ends_name : List ℕ → ℕ → Bool
ends_name text at = nat_lt 0 at && is_name_byte (slice_index text (at - 1)) && not (nat_lt at (length text) && is_name_byte (slice_index text at))

-- the place that is asked for a cursor: a name counts where it ends too
unfoldable pub asked_place : List ℕ → ℕ → ℕ
asked_place text at = if ends_name text at then at - 1 else at
