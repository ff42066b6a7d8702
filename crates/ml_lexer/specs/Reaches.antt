-- How far the bytes go that decide the token at the front of some bytes. The end of the text counts as one byte.
use Rattle.std.specs.Prelude.{◌≡◌, ℕ, ◌+◌, ◌≤◌, ◌==◌, ◌&&◌, ◌||◌, List, length, take, drop, false, nat_lt, if◌then◌else◌, get_or, min, max, Option, Some, None}
use Rattle.token_model.specs.Bytes.{is_blank, is_digit, is_lower, is_upper, begins_name, goes_on, is_hexadecimal, is_octal, begins_operator, is_sign, continues}
use Rattle.token_model.specs.Comments.{begins_comment}
use Rattle.token_model.specs.Kinds.{Kind, Tok}
use Rattle.token_model.specs.Spellings.{is_plain, is_escaped}
use Rattle.token_model.specs.Tokens.{FirstToken, LexFrom}
use Rattle.ml_lexer.specs.Steady.{ends_before}
use Rattle.ml_lexer.specs.Scans.{run_end, is_module_word, module_type_end, is_module_type, char_size, is_e, is_plus_or_minus, Found, literal_found, string_end, opens_quoted, quoted_end, operator_end, is_operator_kind, is_closing_sign}

-- the letters of `type` that stand at a place, and the byte that ends them
abbrev pub type_reach : ℕ → List ℕ → ℕ
type_reach from bs = if get_or bs from 0 == 116 then (if get_or bs (from + 1) 0 == 121 then (if get_or bs (from + 2) 0 == 112 then (if get_or bs (from + 3) 0 == 101 then from + 5 else from + 4) else from + 3) else from + 2) else from + 1

-- a word and the byte behind it; behind `module` also the word that might be `type`
unfoldable pub word_reach : List ℕ → ℕ
word_reach bs = if is_module_type (run_end goes_on 0 bs) bs then module_type_end (run_end goes_on 0 bs) bs + 1 else (if is_module_word (run_end goes_on 0 bs) bs then type_reach (run_end is_blank (run_end goes_on 0 bs) bs) bs else run_end goes_on 0 bs + 1)

-- a name that begins with an upper-case letter, and the byte behind it
unfoldable pub upper_reach : List ℕ → ℕ
upper_reach bs = run_end goes_on 0 bs + 1

-- the bytes that may go on a number behind a quote and a backslash, and the one that doesn't
abbrev pub hexadecimal_reach : List ℕ → ℕ
hexadecimal_reach bs = if is_hexadecimal (get_or bs 3 0) then (if is_hexadecimal (get_or bs 4 0) then 6 else 5) else 4

-- the same for the digits of base 8, the first of which is at most 3
abbrev pub octal_reach : List ℕ → ℕ
octal_reach bs = if is_octal (get_or bs 3 0) && nat_lt (get_or bs 3 0) 52 then (if is_octal (get_or bs 4 0) then (if is_octal (get_or bs 5 0) then 7 else 6) else 5) else 4

-- the same for decimal digits
abbrev pub decimal_reach : List ℕ → ℕ
decimal_reach bs = if is_digit (get_or bs 3 0) then (if is_digit (get_or bs 4 0) then 6 else 5) else 4

-- a quote, a backslash and the bytes that may go on an escape, and the one that doesn't
abbrev pub escape_reach : List ℕ → ℕ
escape_reach bs = if get_or bs 2 0 == 120 then hexadecimal_reach bs else (if get_or bs 2 0 == 111 then octal_reach bs else (if is_escaped (get_or bs 2 0) then 4 else (if is_digit (get_or bs 2 0) then decimal_reach bs else 3)))

-- a quote and the bytes that may go on a character literal, and the one that doesn't
abbrev pub char_reach : List ℕ → ℕ
char_reach bs = if get_or bs 1 0 == 92 then escape_reach bs else (if is_plain (get_or bs 1 0) then 3 else 2)

-- a quote alone
abbrev pub lone_tick_reach : List ℕ → ℕ
lone_tick_reach bs = max (run_end continues 1 bs + 1) (min (char_reach bs) (length bs + 1))

-- a character literal; a type variable and the byte behind it; or else a quote alone
unfoldable pub tick_reach : List ℕ → ℕ
tick_reach bs = if nat_lt 0 (char_size bs) then char_size bs else (if begins_name (get_or bs 1 0) then run_end goes_on 1 bs + 1 else lone_tick_reach bs)

-- a literal, the identifier characters behind it, and the byte behind these; behind an `e` and a sign one more
abbrev pub behind_reach : Found → List ℕ → ℕ
behind_reach f bs = if run_end goes_on f.size bs == f.size + 1 && is_e (get_or bs f.size 0) && is_plus_or_minus (get_or bs (f.size + 1) 0) then f.size + 3 else run_end goes_on f.size bs + 1

-- what begins with a digit
unfoldable pub numeral_reach : List ℕ → ℕ
numeral_reach bs = behind_reach (literal_found bs) bs

-- a string, or all that is left and the end
abbrev pub string_reach : Option ℕ → List ℕ → ℕ
string_reach (Some end) bs = end
string_reach None bs = length bs + 1

-- what begins with the quote of a string
unfoldable pub quote_reach : List ℕ → ℕ
quote_reach bs = string_reach (string_end false 1 (drop 1 bs)) bs

-- a quoted string; or else the letters that might be its identifier, and the byte behind them
unfoldable pub brace_reach : List ℕ → ℕ
brace_reach bs = if opens_quoted bs then string_reach (quoted_end bs) bs else (if get_or bs 1 0 == 60 then 2 else run_end is_lower 1 bs + 1)

-- blanks and the byte behind them, or the sign that the bracket begins and the byte that ends it
unfoldable pub bracket_reach : List ℕ → ℕ
bracket_reach bs = if get_or bs (run_end is_blank 1 bs) 0 == 93 then run_end is_blank 1 bs + 1 else (if get_or bs 1 0 == 124 || get_or bs 1 0 == 60 || get_or bs 1 0 == 62 then 2 else (if get_or bs 1 0 == 64 && get_or bs 2 0 == 64 then 4 else (if get_or bs 1 0 == 64 || get_or bs 1 0 == 37 then 3 else run_end is_blank 1 bs + 1)))

-- what might be an operator at a place, the blanks behind it and the byte behind these
abbrev pub operator_reach : ℕ → Option (Kind × ℕ) → List ℕ → ℕ
operator_reach from None bs = if get_or bs from 0 == 58 then from + 2 else from + 1
operator_reach from (Some op) bs = if is_operator_kind op.0 then run_end is_blank op.1 bs + 1 else op.1 + 1

-- blanks and the byte behind them, or an operator behind them
unfoldable pub paren_reach : List ℕ → ℕ
paren_reach bs = if get_or bs (run_end is_blank 1 bs) 0 == 41 then run_end is_blank 1 bs + 1 else operator_reach (run_end is_blank 1 bs) (operator_end (run_end is_blank 1 bs) bs) bs

-- signs and the byte behind them
unfoldable pub sign_reach : List ℕ → ℕ
sign_reach bs = if is_closing_sign bs then 2 else run_end is_sign 0 bs + 1

-- the other marks; one character that begins no token, and the byte behind it
unfoldable pub mark_reach : ℕ → List ℕ → ℕ
mark_reach b bs = if b == 41 || b == 93 || b == 125 || b == 44 then 1 else (if b == 59 || b == 46 || b == 58 then 2 else (if b == 35 then run_end is_sign 1 bs + 1 else run_end continues 1 bs + 1))

-- what decides the token at the front, where neither a blank nor a comment begins
unfoldable pub reach_from : ℕ → List ℕ → ℕ
reach_from b bs = if is_lower b then word_reach bs else (if is_upper b then upper_reach bs else (if is_digit b then numeral_reach bs else (if b == 39 then tick_reach bs else (if b == 34 then quote_reach bs else (if b == 40 then paren_reach bs else (if b == 91 then bracket_reach bs else (if b == 123 then brace_reach bs else (if begins_operator b then sign_reach bs else mark_reach b bs))))))))

-- The reach of the token that starts at a place of a text: the end of the bytes that decide it. All of the text and its end decide a comment that has no end.
unfoldable pub reach_at : List ℕ → ℕ → ℕ
reach_at text start = start + (if begins_comment (drop start text) then length (drop start text) + 1 else reach_from (get_or (drop start text) 0 0) (drop start text))

-- every text with the same bytes before the reach has this token, with this reach, as its first one at or behind the place
abbrev pub IsStable : List ℕ → ℕ → Tok → ℕ → Type 0
IsStable text at token reach = (other : List ℕ) → take reach text ≡ take reach other → FirstToken other at (Some token) × (reach_at other token.start ≡ reach)

-- of the tokens behind this one, at most 31 end before its reach
abbrev pub HasFew : List ℕ → Tok → ℕ → Type 0
HasFew text token reach = (behind : List Tok) → LexFrom text token.end behind → ends_before (λ (t : Tok). t.end) reach behind ≤ 31
