-- What stands behind a gap.
use Rattle.std.specs.Prelude.{◌≡◌, ◌<◌, ℕ, List, [], drop, length, get_or, true, false}
use Rattle.token_model.specs.Bytes.{is_blank}
use Rattle.token_model.specs.Comments.{begins_comment}
use Rattle.token_model.specs.Tokens.{Gap, IsUnclosed}
use Rattle.ml_lexer.specs.declared.lexer.Next.{Next}
use Rattle.ml_lexer.specs.declared.lexer.Next.TheVariants.{End, Comment, Token}

-- the end of these bytes, an unclosed comment, or what neither a blank nor a comment begins
abbrev pub IsNext : List ℕ → Next → Type 0
IsNext bs End = Gap bs []
IsNext bs (Comment i) = (i < length bs) × (Gap bs (drop i bs)) × (IsUnclosed (drop i bs)) × (begins_comment (drop i bs) ≡ true)
IsNext bs (Token i) = (i < length bs) × (Gap bs (drop i bs)) × (is_blank (get_or (drop i bs) 0 0) ≡ false) × (begins_comment (drop i bs) ≡ false)
