-- Keys: what of a token decides where it may stand. A key is the token's kind, and of `*`, `-`, `-.` and `=` the spelling.
use Rattle.std.specs.Prelude.{ℕ, List, [], ◌∷◌, codes, bytes_eq, if◌then◌else◌}
use Rattle.token_model.specs.Kinds.{Tok, Kind, lower, upper, qualifier, ty_var, op_name, unit, nil, module_type, int, float, char, str, and_word, as_word, assert_word, begin_word, do_word, done_word, downto_word, else_word, end_word, exception_word, false_word, for_word, fun_word, function_word, functor_word, if_word, in_word, include_word, let_word, match_word, module_word, mutable_word, of_word, open_word, rec_word, sig_word, struct_word, then_word, to_word, true_word, try_word, type_word, val_word, when_word, while_word, with_word, left_paren, right_paren, left_bracket, right_bracket, left_brace, right_brace, comma, semi, semi_semi, colon, dot, underscore, bar, arrow, left_arrow, colon_colon, colon_equal, op14, op13, op12, op10, op9, op8, op7, prefix, outside, junk}

-- the keys by their words; the last four are spellings

-- an identifier that begins with a lower-case letter or `_`
abbrev pub lower_key : ℕ
lower_key = 0

-- an identifier that begins with an upper-case letter
abbrev pub upper_key : ℕ
upper_key = 1

-- an upper-case identifier and its point, `M.`
abbrev pub qualifier_key : ℕ
qualifier_key = 2

-- a type variable, `'a`
abbrev pub ty_var_key : ℕ
ty_var_key = 3

-- an operator in parentheses, `( + )`
abbrev pub op_name_key : ℕ
op_name_key = 4

-- the unit value, `()`
abbrev pub unit_key : ℕ
unit_key = 5

-- the empty list, `[]`
abbrev pub nil_key : ℕ
nil_key = 6

-- the words `module type`
abbrev pub module_type_key : ℕ
module_type_key = 7

-- an integer numeral
abbrev pub int_key : ℕ
int_key = 8

-- a numeral with a point or an exponent
abbrev pub float_key : ℕ
float_key = 9

-- a character literal
abbrev pub char_key : ℕ
char_key = 10

-- a string, or a quoted string
abbrev pub str_key : ℕ
str_key = 11

-- the word `and`
abbrev pub and_key : ℕ
and_key = 12

-- the word `as`
abbrev pub as_key : ℕ
as_key = 13

-- the word `assert`
abbrev pub assert_key : ℕ
assert_key = 14

-- the word `begin`
abbrev pub begin_key : ℕ
begin_key = 15

-- the word `do`
abbrev pub do_key : ℕ
do_key = 16

-- the word `done`
abbrev pub done_key : ℕ
done_key = 17

-- the word `downto`
abbrev pub downto_key : ℕ
downto_key = 18

-- the word `else`
abbrev pub else_key : ℕ
else_key = 19

-- the word `end`
abbrev pub end_key : ℕ
end_key = 20

-- the word `exception`
abbrev pub exception_key : ℕ
exception_key = 21

-- the word `false`
abbrev pub false_key : ℕ
false_key = 22

-- the word `for`
abbrev pub for_key : ℕ
for_key = 23

-- the word `fun`
abbrev pub fun_key : ℕ
fun_key = 24

-- the word `function`
abbrev pub function_key : ℕ
function_key = 25

-- the word `functor`
abbrev pub functor_key : ℕ
functor_key = 26

-- the word `if`
abbrev pub if_key : ℕ
if_key = 27

-- the word `in`
abbrev pub in_key : ℕ
in_key = 28

-- the word `include`
abbrev pub include_key : ℕ
include_key = 29

-- the word `let`
abbrev pub let_key : ℕ
let_key = 30

-- the word `match`
abbrev pub match_key : ℕ
match_key = 31

-- the word `module`
abbrev pub module_key : ℕ
module_key = 32

-- the word `mutable`
abbrev pub mutable_key : ℕ
mutable_key = 33

-- the word `of`
abbrev pub of_key : ℕ
of_key = 34

-- the word `open`
abbrev pub open_key : ℕ
open_key = 35

-- the word `rec`
abbrev pub rec_key : ℕ
rec_key = 36

-- the word `sig`
abbrev pub sig_key : ℕ
sig_key = 37

-- the word `struct`
abbrev pub struct_key : ℕ
struct_key = 38

-- the word `then`
abbrev pub then_key : ℕ
then_key = 39

-- the word `to`
abbrev pub to_key : ℕ
to_key = 40

-- the word `true`
abbrev pub true_key : ℕ
true_key = 41

-- the word `try`
abbrev pub try_key : ℕ
try_key = 42

-- the word `type`
abbrev pub type_key : ℕ
type_key = 43

-- the word `val`
abbrev pub val_key : ℕ
val_key = 44

-- the word `when`
abbrev pub when_key : ℕ
when_key = 45

-- the word `while`
abbrev pub while_key : ℕ
while_key = 46

-- the word `with`
abbrev pub with_key : ℕ
with_key = 47

-- the mark `(`
abbrev pub left_paren_key : ℕ
left_paren_key = 48

-- the mark `)`
abbrev pub right_paren_key : ℕ
right_paren_key = 49

-- the mark `[`
abbrev pub left_bracket_key : ℕ
left_bracket_key = 50

-- the mark `]`
abbrev pub right_bracket_key : ℕ
right_bracket_key = 51

-- the mark `{`
abbrev pub left_brace_key : ℕ
left_brace_key = 52

-- the mark `}`
abbrev pub right_brace_key : ℕ
right_brace_key = 53

-- the mark `,`
abbrev pub comma_key : ℕ
comma_key = 54

-- the mark `;`
abbrev pub semi_key : ℕ
semi_key = 55

-- the mark `;;`
abbrev pub semi_semi_key : ℕ
semi_semi_key = 56

-- the mark `:`
abbrev pub colon_key : ℕ
colon_key = 57

-- the mark `.`
abbrev pub dot_key : ℕ
dot_key = 58

-- the mark `_`
abbrev pub underscore_key : ℕ
underscore_key = 59

-- the mark `|`
abbrev pub bar_key : ℕ
bar_key = 60

-- the mark `->`
abbrev pub arrow_key : ℕ
arrow_key = 61

-- the mark `<-`
abbrev pub left_arrow_key : ℕ
left_arrow_key = 62

-- the mark `::`
abbrev pub colon_colon_key : ℕ
colon_colon_key = 63

-- the mark `:=`
abbrev pub colon_equal_key : ℕ
colon_equal_key = 64

-- an operator that begins with `**`, or `lsl`, `lsr` or `asr`
abbrev pub op14_key : ℕ
op14_key = 65

-- an operator that binds as `*` does, such as `/` and `mod`, other than `*`
abbrev pub op13_key : ℕ
op13_key = 66

-- an operator that binds as `+` does, other than `-` and `-.`
abbrev pub op12_key : ℕ
op12_key = 67

-- an operator that begins with `@` or `^`
abbrev pub op10_key : ℕ
op10_key = 68

-- a comparison, or another operator that binds as `<` does, other than `=`
abbrev pub op9_key : ℕ
op9_key = 69

-- the operator `&&`
abbrev pub op8_key : ℕ
op8_key = 70

-- the operator `||`
abbrev pub op7_key : ℕ
op7_key = 71

-- a prefix operator, such as `!` and `~-`
abbrev pub prefix_key : ℕ
prefix_key = 72

-- a word, mark or numeral of OCaml that is no part of the language
abbrev pub outside_key : ℕ
outside_key = 73

-- what begins no token, or an unclosed comment or string
abbrev pub junk_key : ℕ
junk_key = 74

-- the operator `*`
abbrev pub star_key : ℕ
star_key = 75

-- the operator `-`
abbrev pub minus_key : ℕ
minus_key = 76

-- the operator `-.`
abbrev pub minus_point_key : ℕ
minus_point_key = 77

-- the operator `=`
abbrev pub equal_key : ℕ
equal_key = 78

-- the literals that are constants: numerals, characters, strings, `()`, `[]`, `true` and `false`
abbrev pub constants : List ℕ
constants = int_key ∷ float_key ∷ char_key ∷ str_key ∷ unit_key ∷ nil_key ∷ true_key ∷ false_key ∷ []

-- the key of a kind whose spellings all stand alike
unfoldable pub kind_key : Kind → ℕ
kind_key lower = lower_key
kind_key upper = upper_key
kind_key qualifier = qualifier_key
kind_key ty_var = ty_var_key
kind_key op_name = op_name_key
kind_key unit = unit_key
kind_key nil = nil_key
kind_key module_type = module_type_key
kind_key int = int_key
kind_key float = float_key
kind_key char = char_key
kind_key str = str_key
kind_key and_word = and_key
kind_key as_word = as_key
kind_key assert_word = assert_key
kind_key begin_word = begin_key
kind_key do_word = do_key
kind_key done_word = done_key
kind_key downto_word = downto_key
kind_key else_word = else_key
kind_key end_word = end_key
kind_key exception_word = exception_key
kind_key false_word = false_key
kind_key for_word = for_key
kind_key fun_word = fun_key
kind_key function_word = function_key
kind_key functor_word = functor_key
kind_key if_word = if_key
kind_key in_word = in_key
kind_key include_word = include_key
kind_key let_word = let_key
kind_key match_word = match_key
kind_key module_word = module_key
kind_key mutable_word = mutable_key
kind_key of_word = of_key
kind_key open_word = open_key
kind_key rec_word = rec_key
kind_key sig_word = sig_key
kind_key struct_word = struct_key
kind_key then_word = then_key
kind_key to_word = to_key
kind_key true_word = true_key
kind_key try_word = try_key
kind_key type_word = type_key
kind_key val_word = val_key
kind_key when_word = when_key
kind_key while_word = while_key
kind_key with_word = with_key
kind_key left_paren = left_paren_key
kind_key right_paren = right_paren_key
kind_key left_bracket = left_bracket_key
kind_key right_bracket = right_bracket_key
kind_key left_brace = left_brace_key
kind_key right_brace = right_brace_key
kind_key comma = comma_key
kind_key semi = semi_key
kind_key semi_semi = semi_semi_key
kind_key colon = colon_key
kind_key dot = dot_key
kind_key underscore = underscore_key
kind_key bar = bar_key
kind_key arrow = arrow_key
kind_key left_arrow = left_arrow_key
kind_key colon_colon = colon_colon_key
kind_key colon_equal = colon_equal_key
kind_key op14 = op14_key
kind_key op13 = op13_key
kind_key op12 = op12_key
kind_key op10 = op10_key
kind_key op9 = op9_key
kind_key op8 = op8_key
kind_key op7 = op7_key
kind_key prefix = prefix_key
kind_key outside = outside_key
kind_key junk = junk_key

-- the key of a kind with a spelling
abbrev pub spelled_key : Kind → List ℕ → ℕ
spelled_key op13 name = if bytes_eq name (codes "*") then star_key else op13_key
spelled_key op12 name = if bytes_eq name (codes "-") then minus_key else (if bytes_eq name (codes "-.") then minus_point_key else op12_key)
spelled_key op9 name = if bytes_eq name (codes "=") then equal_key else op9_key
spelled_key kind name = kind_key kind

-- the key of a token
unfoldable pub key_of : Tok → ℕ
key_of t = spelled_key t.kind t.name
