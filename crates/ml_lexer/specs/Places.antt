-- What is left of a text from a place on, and how the sorts of bytes are tested.
use Rattle.std.specs.Prelude.{ℕ, ◌-◌, ◌^◌, ◌<◌, ◌≤◌, ◌==◌, ◌||◌, List, ◌++◌, Bool, drop, length, Option, Some, None}
use Rattle.syntax_tree.specs.Tallies.{Tallies, lexed_more}
use Rattle.syntax_tree.specs.declared.tree.Token.{Token}
use Rattle.ml_lexer.specs.declared.rest.Rest.{Rest}
use Rattle.ml_lexer.specs.declared.rest.Sort.{Sort}
use Rattle.ml_lexer.specs.declared.rest.Sort.TheVariants.{Blank, LowerLetter, Name, Decimal, DigitOf, Sign, Later}
use Rattle.token_model.specs.Bytes.{is_blank, is_lower, goes_on, is_decimal, is_digit_of, is_sign, continues}

-- both parts of a text
abbrev pub whole : Rest → List ℕ
whole r = r.left.now ++ r.right.now

-- what is left of it
abbrev pub rest_of : Rest → List ℕ
rest_of r = drop r.at (whole r)

-- the place lies in the text, and each place fits 32 bits
abbrev pub IsPlaced : Rest → Type 0
IsPlaced r = (length (whole r) < 2 ^ 32 - 1) × (r.at ≤ length (whole r))

-- the test of a sort of bytes
abbrev pub test_of : Sort → ℕ → Bool
test_of Blank = is_blank
test_of LowerLetter = is_lower
test_of Name = goes_on
test_of Decimal = is_decimal
test_of (DigitOf letter) = λ b. is_digit_of letter b || b == 95
test_of Sign = is_sign
test_of Later = continues

-- a token that was given is counted
abbrev pub tallied : Option Token → Tallies → Tallies
tallied None t = t
tallied (Some token) t = lexed_more t
