-- Lines of bytes, cut at line feeds.
use Rattle.std.specs.Prelude.{ℕ, ◌==◌, List, [], ◌∷◌, ◌++◌, if◌then◌else◌}

-- the byte that ends a line
abbrev pub line_feed : ℕ
line_feed = 10

-- the lines that a line feed ends, where `line` is what stands before the bytes on their first line
abbrev pub ended_from : List ℕ → List ℕ → List (List ℕ)
ended_from line [] = []
ended_from line (b ∷ bs) = if b == line_feed then line ∷ ended_from [] bs else ended_from (line ++ b ∷ []) bs

-- what stands behind the last line feed, where `line` is what stands before the bytes on their first line
abbrev pub rest_from : List ℕ → List ℕ → List ℕ
rest_from line [] = line
rest_from line (b ∷ bs) = if b == line_feed then rest_from [] bs else rest_from (line ++ b ∷ []) bs

-- the lines of a text, each without its line feed: with n line feeds they are n + 1
abbrev pub lines_of : List ℕ → List (List ℕ)
lines_of text = ended_from [] text ++ rest_from [] text ∷ []
