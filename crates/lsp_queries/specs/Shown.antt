-- Places of a text as an editor counts them.
use Rattle.std.specs.Prelude.{ℕ, ◌-◌, List, length, drop, max, unwrap_or}
use Rattle.text_model.specs.Positions.{offset, position_of}
use Rattle.lsp_model.specs.Messages.{Range}
use Rattle.lsp_model.specs.Positions.{Columns, columns_before, offset_at}
use Rattle.lsp_model.specs.Spans.{shown_span}

-- the offset of a position that the line protocol gives, with lines from 1; the text's end where the text has no such position
abbrev pub place_told : List ℕ → ℕ × ℕ → ℕ
place_told text p = unwrap_or (offset text p.0 p.1) (length text)

-- the columns between two places of a text, as an editor counts them
abbrev pub columns_within : Columns → List ℕ → ℕ → ℕ → ℕ
columns_within by text start end = columns_before by (end - start) (drop start text)

-- an offset as an editor counts it: its line from 0, and the columns from that line's start
unfoldable pub place_shown : Columns → List ℕ → ℕ → ℕ × ℕ
place_shown by text o = ((position_of text o).0 - 1, columns_within by text (o - (position_of text o).1) o)

-- a span of offsets as an editor counts it
abbrev pub range_shown : Columns → List ℕ → ℕ × ℕ → Range
range_shown by text s = (place_shown by text s.0, place_shown by text s.1)

-- the offsets of two positions that the line protocol gives
abbrev pub span_told : List ℕ → ℕ × ℕ → ℕ × ℕ → ℕ × ℕ
span_told text start end = (place_told text start, place_told text end)

-- what is between two positions that the line protocol gives, as an editor counts it
abbrev pub range_told : Columns → List ℕ → ℕ × ℕ → ℕ × ℕ → Range
range_told by text start end = range_shown by text (span_told text start end)

-- the span that is shown for what is between two positions that the line protocol gives
abbrev pub span_drawn : List ℕ → ℕ × ℕ → ℕ × ℕ → ℕ × ℕ
span_drawn text start end = shown_span text (span_told text start end)

-- the offset of an editor's position
abbrev pub place_asked : Columns → List ℕ → ℕ × ℕ → ℕ
place_asked by text p = offset_at by p.0 p.1 text

-- the offsets of an editor's range; one that ends before its start is empty there
abbrev pub span_asked : Columns → List ℕ → Range → ℕ × ℕ
span_asked by text r = (place_asked by text r.0, max (place_asked by text r.0) (place_asked by text r.1))
