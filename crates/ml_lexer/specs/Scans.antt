-- What each scan gives at the front of some bytes.
use Rattle.std.specs.Prelude.{ℕ, ◌+◌, ◌-◌, ◌==◌, ◌&&◌, ◌||◌, List, [], ◌∷◌, take, drop, length, Bool, true, false, nat_lt, if◌then◌else◌, get_or, Option, Some, None}
use Rattle.token_model.specs.Bytes.{is_blank, is_digit, is_lower, is_upper, begins_name, goes_on, is_decimal, is_hexadecimal, is_octal, is_digit_of, begins_operator, is_sign, continues}
use Rattle.token_model.specs.Kinds.{Kind, upper, qualifier, ty_var, op_name, unit, nil, module_type, int, float, char, str, left_paren, right_paren, left_bracket, right_bracket, left_brace, right_brace, comma, semi, semi_semi, colon, dot, colon_colon, colon_equal, op14, op13, op12, op10, op9, op8, op7, prefix, outside, junk}
use Rattle.token_model.specs.Spellings.{is_plain, is_escaped, closing}
use Rattle.token_model.specs.Words.{word_kind, sign_kind}

-- how many bytes at the front pass the test
abbrev pub run_length : (ℕ → Bool) → List ℕ → ℕ
run_length test [] = 0
run_length test (b ∷ bs) = if test b then run_length test bs + 1 else 0

-- the end of the bytes that pass a test from a place on
abbrev pub run_end : (ℕ → Bool) → ℕ → List ℕ → ℕ
run_end test from bs = from + run_length test (drop from bs)

-- a token at the front: its kind, its size, and where its name lies in it
pub record Found : Type 0 where
  pub kind : Kind
  pub size : ℕ
  pub name_start : ℕ
  pub name_size : ℕ

-- a token of this kind and size; its name is all of it
abbrev pub found : Kind → ℕ → Found
found kind size = record { kind = kind; size = size; name_start = 0; name_size = size }

-- the word `type` stands from a place to another
abbrev pub is_type_word : ℕ → ℕ → List ℕ → Bool
is_type_word from to bs = to == from + 4 && get_or bs from 0 == 116 && get_or bs (from + 1) 0 == 121 && get_or bs (from + 2) 0 == 112 && get_or bs (from + 3) 0 == 101

-- the word `module` stands at the front and ends at a place
abbrev pub is_module_word : ℕ → List ℕ → Bool
is_module_word to bs = to == 6 && get_or bs 0 0 == 109 && get_or bs 1 0 == 111 && get_or bs 2 0 == 100 && get_or bs 3 0 == 117 && get_or bs 4 0 == 108 && get_or bs 5 0 == 101

-- the end of `module type`, where the word `module` ends at a place
abbrev pub module_type_end : ℕ → List ℕ → ℕ
module_type_end to bs = run_end goes_on (run_end is_blank to bs) bs

-- `module type` stands at the front, with blanks between the two words
abbrev pub is_module_type : ℕ → List ℕ → Bool
is_module_type to bs = is_module_word to bs && nat_lt to (run_end is_blank to bs) && is_type_word (run_end is_blank to bs) (module_type_end to bs) bs

-- the token at a word: `module type`, a keyword or a name
unfoldable pub word_found : List ℕ → Found
word_found bs = if is_module_type (run_end goes_on 0 bs) bs then found module_type (module_type_end (run_end goes_on 0 bs) bs) else found (word_kind (take (run_end goes_on 0 bs) bs)) (run_end goes_on 0 bs)

-- the token at a capitalised name: a qualifier where a point stands behind it
unfoldable pub upper_found : List ℕ → Found
upper_found bs = if get_or bs (run_end goes_on 0 bs) 0 == 46 then record { kind = qualifier; size = run_end goes_on 0 bs + 1; name_start = 0; name_size = run_end goes_on 0 bs } else found upper (run_end goes_on 0 bs)

-- the size of an escape in a character literal, and 0 where there is none
unfoldable pub escape_size : List ℕ → ℕ
escape_size bs = if is_escaped (get_or bs 2 0) && get_or bs 3 0 == 39 then 4 else (if is_digit (get_or bs 2 0) && is_digit (get_or bs 3 0) && is_digit (get_or bs 4 0) && get_or bs 5 0 == 39 then 6 else (if get_or bs 2 0 == 120 && is_hexadecimal (get_or bs 3 0) && is_hexadecimal (get_or bs 4 0) && get_or bs 5 0 == 39 then 6 else (if get_or bs 2 0 == 111 && is_octal (get_or bs 3 0) && nat_lt (get_or bs 3 0) 52 && is_octal (get_or bs 4 0) && is_octal (get_or bs 5 0) && get_or bs 6 0 == 39 then 7 else 0)))

-- the size of the character literal behind whose first quote these bytes stand, and 0 where there is none
unfoldable pub char_size : List ℕ → ℕ
char_size bs = if get_or bs 1 0 == 92 then escape_size bs else (if is_plain (get_or bs 1 0) && get_or bs 2 0 == 39 then 3 else 0)

-- junk of one character, which begins no token
abbrev pub stray_found : List ℕ → Found
stray_found bs = found junk (run_end continues 1 bs)

-- the token at a quote: a character literal, a type variable or junk
unfoldable pub tick_found : List ℕ → Found
tick_found bs = if nat_lt 0 (char_size bs) then found char (char_size bs) else (if begins_name (get_or bs 1 0) then found ty_var (run_end goes_on 1 bs) else stray_found bs)

-- a numeral of another base begins: 0, the letter of the base and a digit of it
abbrev pub is_based : List ℕ → Bool
is_based bs = get_or bs 0 0 == 48 && is_digit_of (get_or bs 1 0) (get_or bs 2 0)

-- the end of the digits of a base that a letter names
abbrev pub based_end : ℕ → List ℕ → ℕ
based_end letter bs = run_end (λ b. is_digit_of letter b || b == 95) 2 bs

-- `e` or `E`, which begins an exponent
abbrev pub is_e : ℕ → Bool
is_e b = b == 101 || b == 69

-- `+` or `-`
abbrev pub is_plus_or_minus : ℕ → Bool
is_plus_or_minus b = b == 43 || b == 45

-- the end of a point and the digits behind it, where a point stands at a place
abbrev pub fraction_end : ℕ → List ℕ → ℕ
fraction_end from bs = if get_or bs from 0 == 46 then run_end is_decimal (from + 1) bs else from

-- the end of an exponent, where one stands at a place
abbrev pub exponent_end : ℕ → List ℕ → ℕ
exponent_end from bs = if is_e (get_or bs from 0) && is_digit (get_or bs (from + 1) 0) then run_end is_decimal (from + 1) bs else (if is_e (get_or bs from 0) && is_plus_or_minus (get_or bs (from + 1) 0) && is_digit (get_or bs (from + 2) 0) then run_end is_decimal (from + 2) bs else from)

-- the kind and the size of the longest integer or floating-point literal
unfoldable pub literal_found : List ℕ → Found
literal_found bs = if is_based bs then found int (based_end (get_or bs 1 0) bs) else (if exponent_end (fraction_end (run_end is_decimal 0 bs) bs) bs == run_end is_decimal 0 bs then found int (run_end is_decimal 0 bs) else found float (exponent_end (fraction_end (run_end is_decimal 0 bs) bs) bs))

-- a literal, or one that identifier characters make a sign outside of the language
abbrev pub with_behind : Found → List ℕ → Found
with_behind f bs = if nat_lt f.size (run_end goes_on f.size bs) then found outside (run_end goes_on f.size bs) else f

-- the token at a digit
unfoldable pub numeral_found : List ℕ → Found
numeral_found bs = with_behind (literal_found bs) bs

-- the end of a string whose first quote stands before these bytes, which stand at a place; a backslash may stand before them
abbrev pub string_end : Bool → ℕ → List ℕ → Option ℕ
string_end escaped at [] = None
string_end escaped at (b ∷ bs) = if escaped then string_end false (at + 1) bs else (if b == 34 then Some (at + 1) else string_end (b == 92) (at + 1) bs)

-- whether a word stands at the front
abbrev pub front_is : List ℕ → List ℕ → Bool
front_is [] bs = true
front_is (c ∷ cs) [] = false
front_is (c ∷ cs) (b ∷ bs) = b == c && front_is cs bs

-- the end of the first place where a word stands
abbrev pub word_end : List ℕ → ℕ → List ℕ → Option ℕ
word_end word at [] = None
word_end word at (b ∷ bs) = if front_is word (b ∷ bs) then Some (at + length word) else word_end word (at + 1) bs

-- the identifier of a quoted string that `{` begins, and whether it begins one
abbrev pub quoted_id : List ℕ → List ℕ
quoted_id bs = take (run_end is_lower 1 bs - 1) (drop 1 bs)

-- `{` begins a quoted string: `|` stands behind the identifier
abbrev pub opens_quoted : List ℕ → Bool
opens_quoted bs = get_or bs (run_end is_lower 1 bs) 0 == 124

-- the end of a quoted string, if it has one
abbrev pub quoted_end : List ℕ → Option ℕ
quoted_end bs = word_end (closing (quoted_id bs)) (run_end is_lower 1 bs + 1) (drop (run_end is_lower 1 bs + 1) bs)

-- a string up to its end, or junk up to the end of the text
abbrev pub string_found : Option ℕ → List ℕ → Found
string_found (Some end) bs = found str end
string_found None bs = found junk (length bs)

-- the token at a double quote: a string
unfoldable pub quote_found : List ℕ → Found
quote_found bs = string_found (string_end false 1 (drop 1 bs)) bs

-- the token at `{`: a quoted string, a sign outside of the language, or the brace
unfoldable pub brace_found : List ℕ → Found
brace_found bs = if opens_quoted bs then string_found (quoted_end bs) bs else (if get_or bs 1 0 == 60 then found outside 2 else found left_brace 1)

-- the token at `[`: `[]`, a sign outside of the language, or the bracket
unfoldable pub bracket_found : List ℕ → Found
bracket_found bs = if get_or bs (run_end is_blank 1 bs) 0 == 93 then found nil (run_end is_blank 1 bs + 1) else (if get_or bs 1 0 == 124 || get_or bs 1 0 == 60 || get_or bs 1 0 == 62 then found outside 2 else (if get_or bs 1 0 == 64 && get_or bs 2 0 == 64 && get_or bs 3 0 == 64 then found outside 4 else (if get_or bs 1 0 == 64 && get_or bs 2 0 == 64 then found outside 3 else (if get_or bs 1 0 == 37 && get_or bs 2 0 == 37 then found outside 3 else (if get_or bs 1 0 == 64 || get_or bs 1 0 == 37 then found outside 2 else found left_bracket 1)))))

-- an operator: its kind and its end
abbrev pub operator_end : ℕ → List ℕ → Option (Kind × ℕ)
operator_end from bs = if begins_operator (get_or bs from 0) then Some (sign_kind (take (run_end is_sign from bs - from) (drop from bs)), run_end is_sign from bs) else (if is_lower (get_or bs from 0) then Some (word_kind (take (run_end goes_on from bs - from) (drop from bs)), run_end goes_on from bs) else (if get_or bs from 0 == 58 && get_or bs (from + 1) 0 == 61 then Some (colon_equal, from + 2) else None))

-- a kind that may stand in an OpName
abbrev pub is_operator_kind : Kind → Bool
is_operator_kind op14 = true
is_operator_kind op13 = true
is_operator_kind op12 = true
is_operator_kind op10 = true
is_operator_kind op9 = true
is_operator_kind op8 = true
is_operator_kind op7 = true
is_operator_kind prefix = true
is_operator_kind colon_equal = true
is_operator_kind other = false

-- the token at `(` in front of an operator, which begins at a place: an OpName, or the parenthesis alone
abbrev pub op_name_found : ℕ → Option (Kind × ℕ) → List ℕ → Found
op_name_found from None bs = found left_paren 1
op_name_found from (Some op) bs = if is_operator_kind op.0 && get_or bs (run_end is_blank op.1 bs) 0 == 41 then record { kind = op_name; size = run_end is_blank op.1 bs + 1; name_start = from; name_size = op.1 - from } else found left_paren 1

-- the token at `(`: `()`, an OpName, or the parenthesis
unfoldable pub paren_found : List ℕ → Found
paren_found bs = if get_or bs (run_end is_blank 1 bs) 0 == 41 then found unit (run_end is_blank 1 bs + 1) else op_name_found (run_end is_blank 1 bs) (operator_end (run_end is_blank 1 bs) bs) bs

-- `|]`, `>]` or `>}`
abbrev pub is_closing_sign : List ℕ → Bool
is_closing_sign bs = get_or bs 0 0 == 124 && get_or bs 1 0 == 93 || get_or bs 0 0 == 62 && (get_or bs 1 0 == 93 || get_or bs 1 0 == 125)

-- the token at signs: an operator, or a closing sign outside of the language
unfoldable pub sign_found : List ℕ → Found
sign_found bs = if is_closing_sign bs then found outside 2 else found (sign_kind (take (run_end is_sign 0 bs) bs)) (run_end is_sign 0 bs)

-- one mark, or the longer one where a byte stands behind it
abbrev pub mark_found : Kind → ℕ → Kind → List ℕ → Found
mark_found kind second double bs = if get_or bs 1 0 == second then found double 2 else found kind 1

-- the token at `:`: `::`, `:=`, `:>`, which is outside of the language, or the colon
abbrev pub colon_found : List ℕ → Found
colon_found bs = if get_or bs 1 0 == 58 then found colon_colon 2 else (if get_or bs 1 0 == 61 then found colon_equal 2 else (if get_or bs 1 0 == 62 then found outside 2 else found colon 1))

-- the other marks, each of which is a byte of its own
unfoldable pub mark_or_stray : ℕ → List ℕ → Found
mark_or_stray b bs = if b == 41 then found right_paren 1 else (if b == 93 then found right_bracket 1 else (if b == 125 then found right_brace 1 else (if b == 44 then found comma 1 else (if b == 59 then mark_found semi 59 semi_semi bs else (if b == 46 then mark_found dot 46 outside bs else (if b == 58 then colon_found bs else (if b == 35 then found outside (run_end is_sign 1 bs) else stray_found bs)))))))

-- the token at the front, where neither a blank nor a comment begins
unfoldable pub found_from : ℕ → List ℕ → Found
found_from b bs = if is_lower b then word_found bs else (if is_upper b then upper_found bs else (if is_digit b then numeral_found bs else (if b == 39 then tick_found bs else (if b == 34 then quote_found bs else (if b == 40 then paren_found bs else (if b == 91 then bracket_found bs else (if b == 123 then brace_found bs else (if begins_operator b then sign_found bs else mark_or_stray b bs))))))))

-- what stands inside a comment: the beginning or the end of one, bytes to pass, or what has no end
pub data Piece : Type 0 where
  opens : Piece
  closes : Piece
  passes : ℕ → Piece
  unclosed : Piece

-- a string inside a comment: it is passed, or it has no end
abbrev pub string_piece : Option ℕ → Piece
string_piece (Some end) = passes end
string_piece None = unclosed

-- the first two bytes are these
abbrev pub two_are : ℕ → ℕ → List ℕ → Bool
two_are b c bs = get_or bs 0 0 == b && get_or bs 1 0 == c

-- what stands at the front of these bytes inside a comment
unfoldable pub piece_of : List ℕ → Piece
piece_of bs = if two_are 40 42 bs then opens else (if two_are 42 41 bs then closes else (if get_or bs 0 0 == 34 then string_piece (string_end false 1 (drop 1 bs)) else (if get_or bs 0 0 == 123 && opens_quoted bs then string_piece (quoted_end bs) else (if get_or bs 0 0 == 39 && nat_lt 0 (char_size bs) then passes (char_size bs) else passes 1))))
