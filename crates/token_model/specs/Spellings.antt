-- How each kind is spelled. (OCaml manual, "Lexical conventions".)
use Rattle.std.specs.Prelude.{◌≡◌, ℕ, ◌==◌, ◌≤◌, ◌&&◌, ◌||◌, List, [], ◌∷◌, ◌++◌, Bool, true, false, not, nat_lt, length, codes, ◌⊎◌}
use Rattle.std.specs.List.{list_all}
use Rattle.token_model.specs.Bytes.{is_blank, is_digit, is_lower, is_upper, begins_name, goes_on, is_decimal, is_hexadecimal, is_octal, is_digit_of, begins_operator, is_sign, begins}
use Rattle.token_model.specs.Kinds.{Kind, upper, qualifier, ty_var, op_name, unit, nil, module_type, int, float, char, str, left_paren, right_paren, left_bracket, right_bracket, left_brace, right_brace, comma, semi, semi_semi, colon, dot, colon_colon, colon_equal, op14, op13, op12, op10, op9, op8, op7, prefix, outside}
use Rattle.token_model.specs.Words.{word_kind, sign_kind}

-- one byte of a first sort, and then bytes of a second sort
abbrev pub Run : (ℕ → Bool) → (ℕ → Bool) → List ℕ → Type 0
Run first more [] = ⊥
Run first more (b ∷ bs) = (first b ≡ true) × (list_all more bs ≡ true)

-- each byte is a blank
abbrev pub AreBlanks : List ℕ → Type 0
AreBlanks bs = list_all is_blank bs ≡ true

-- Integer literals: decimal digits, or digits of a base behind `0` and the base's letter; `_` may stand behind the first digit.
pub data IsInt : List ℕ → Type 0 where
  decimal : {ds : List ℕ} → Run is_digit is_decimal ds → IsInt ds
  based : {letter : ℕ} {ds : List ℕ} → Run (is_digit_of letter) (λ b. is_digit_of letter b || b == 95) ds → IsInt (48 ∷ letter ∷ ds)

-- nothing, or a point and then digits and `_` or nothing
pub data IsFraction : List ℕ → Type 0 where
  no_fraction : IsFraction []
  fraction : {ds : List ℕ} → list_all is_decimal ds ≡ true → IsFraction (46 ∷ ds)

-- nothing, or `e` or `E`, a sign or none, and digits
pub data IsExponent : List ℕ → Type 0 where
  no_exponent : IsExponent []
  exponent : {e : ℕ} {ds : List ℕ} → (e == 101 || e == 69) ≡ true → Run is_digit is_decimal ds → IsExponent (e ∷ ds)
  signed_exponent : {e s : ℕ} {ds : List ℕ} → (e == 101 || e == 69) ≡ true → (s == 43 || s == 45) ≡ true → Run is_digit is_decimal ds → IsExponent (e ∷ s ∷ ds)

-- Floating-point literals: digits with a fraction or an exponent, or both.
pub data IsFloat : List ℕ → Type 0 where
  float_with : (ds f e : List ℕ) → Run is_digit is_decimal ds → IsFraction f → IsExponent e → (f ++ e ≡ [] → ⊥) → IsFloat (ds ++ f ++ e)

-- an ASCII character that stands for itself in a character literal
abbrev pub is_plain : ℕ → Bool
is_plain c = nat_lt c 128 && not (c == 92 || c == 39 || c == 10 || c == 13)

-- what a backslash may stand before: `\`, `"`, `'`, n, t, b, r and the space
abbrev pub is_escaped : ℕ → Bool
is_escaped c = c == 92 || c == 34 || c == 39 || c == 110 || c == 116 || c == 98 || c == 114 || c == 32

-- Character literals: a character, an escape, or a number of three decimal, two hexadecimal or three octal digits, between two quotes.
pub data IsChar : List ℕ → Type 0 where
  plain : {c : ℕ} → is_plain c ≡ true → IsChar (39 ∷ c ∷ 39 ∷ [])
  escape : {c : ℕ} → is_escaped c ≡ true → IsChar (39 ∷ 92 ∷ c ∷ 39 ∷ [])
  decimal_code : {a b c : ℕ} → (is_digit a && is_digit b && is_digit c) ≡ true → IsChar (39 ∷ 92 ∷ a ∷ b ∷ c ∷ 39 ∷ [])
  hexadecimal_code : {a b : ℕ} → (is_hexadecimal a && is_hexadecimal b) ≡ true → IsChar (39 ∷ 92 ∷ 120 ∷ a ∷ b ∷ 39 ∷ [])
  octal_code : {a b c : ℕ} → (is_octal a && nat_lt a 52 && is_octal b && is_octal c) ≡ true → IsChar (39 ∷ 92 ∷ 111 ∷ a ∷ b ∷ c ∷ 39 ∷ [])

-- what stands behind the first quote of a string: bytes up to the next quote that no backslash takes, and this quote
pub data EndsString : List ℕ → Type 0 where
  end_quote : EndsString (34 ∷ [])
  string_byte : {b : ℕ} {bs : List ℕ} → (b == 34 || b == 92) ≡ false → EndsString bs → EndsString (b ∷ bs)
  string_escape : {b : ℕ} {bs : List ℕ} → EndsString bs → EndsString (92 ∷ b ∷ bs)

-- `|id}`, which ends a quoted string
abbrev pub closing : List ℕ → List ℕ
closing id = 124 ∷ id ++ 125 ∷ []

-- a quoted string: `{id|`, a body, and the first `|id}` behind it
pub record IsQuoted (bytes : List ℕ) : Type 0 where
  pub id : List ℕ
  pub body : List ℕ
  pub name : list_all is_lower id ≡ true
  pub whole : bytes ≡ 123 ∷ id ++ 124 ∷ body ++ closing id
  pub first : (before behind : List ℕ) → body ++ closing id ≡ before ++ closing id ++ behind → length body ≤ length before

-- String literals.
pub data IsString : List ℕ → Type 0 where
  string : {bs : List ℕ} → EndsString bs → IsString (34 ∷ bs)
  quoted_string : {bs : List ℕ} → IsQuoted bs → IsString bs

-- Marks, and signs outside of the language, that are no operators.
pub data Mark : Kind → List ℕ → Type 0 where
  left_paren_mark : Mark left_paren (codes "(")
  right_paren_mark : Mark right_paren (codes ")")
  left_bracket_mark : Mark left_bracket (codes "[")
  right_bracket_mark : Mark right_bracket (codes "]")
  left_brace_mark : Mark left_brace (codes "{")
  right_brace_mark : Mark right_brace (codes "}")
  comma_mark : Mark comma (codes ",")
  semi_mark : Mark semi (codes ";")
  semi_semi_mark : Mark semi_semi (codes ";;")
  colon_mark : Mark colon (codes ":")
  dot_mark : Mark dot (codes ".")
  colon_colon_mark : Mark colon_colon (codes "::")
  colon_equal_mark : Mark colon_equal (codes ":=")
  left_array_sign : Mark outside (codes "[|")
  right_array_sign : Mark outside (codes "|]")
  left_less_sign : Mark outside (codes "[<")
  left_greater_sign : Mark outside (codes "[>")
  right_greater_sign : Mark outside (codes ">]")
  left_object_sign : Mark outside (codes "{<")
  right_object_sign : Mark outside (codes ">}")
  attribute_sign : Mark outside (codes "[@")
  item_attribute_sign : Mark outside (codes "[@@")
  floating_attribute_sign : Mark outside (codes "[@@@")
  extension_sign : Mark outside (codes "[%")
  item_extension_sign : Mark outside (codes "[%%")
  dots_sign : Mark outside (codes "..")
  coercion_sign : Mark outside (codes ":>")

-- a kind that may stand in an OpName
pub data IsOperatorKind : Kind → Type 0 where
  kind14 : IsOperatorKind op14
  kind13 : IsOperatorKind op13
  kind12 : IsOperatorKind op12
  kind10 : IsOperatorKind op10
  kind9 : IsOperatorKind op9
  kind8 : IsOperatorKind op8
  kind7 : IsOperatorKind op7
  prefix_kind : IsOperatorKind prefix
  assignment_kind : IsOperatorKind colon_equal

-- an operator that may stand in an OpName
pub data IsOperator : List ℕ → Type 0 where
  sign_operator : {bs : List ℕ} → Run begins_operator is_sign bs → IsOperatorKind (sign_kind bs) → IsOperator bs
  word_operator : {bs : List ℕ} → Run is_lower goes_on bs → IsOperatorKind (word_kind bs) → IsOperator bs
  assignment : IsOperator (codes ":=")

-- These bytes, before those that follow, spell a token of a kind, with a name. The name is the spelling; of a Qualifier it is without the point, of an OpName it is the operator.
-- What follows matters to two kinds: `module type` are whole words, and a type variable stands only where no character literal does.
pub data Spells : Kind → List ℕ → List ℕ → List ℕ → Type 0 where
  a_word : {bs rest : List ℕ} → Run is_lower goes_on bs → Spells (word_kind bs) bs bs rest
  an_upper : {bs rest : List ℕ} → Run is_upper goes_on bs → Spells upper bs bs rest
  a_qualifier : {bs rest : List ℕ} → Run is_upper goes_on bs → Spells qualifier (bs ++ codes ".") bs rest
  a_ty_var : {bs rest : List ℕ} → Run begins_name goes_on bs → ((spelled behind : List ℕ) → spelled ++ behind ≡ 39 ∷ bs ++ rest → IsChar spelled → ⊥) → Spells ty_var (39 ∷ bs) (39 ∷ bs) rest
  an_op_name : (before : List ℕ) {bs : List ℕ} (behind : List ℕ) {rest : List ℕ} → AreBlanks before → IsOperator bs → AreBlanks behind → Spells op_name (40 ∷ before ++ bs ++ behind ++ codes ")") bs rest
  a_unit : (bs : List ℕ) {rest : List ℕ} → AreBlanks bs → Spells unit (40 ∷ bs ++ codes ")") (40 ∷ bs ++ codes ")") rest
  a_nil : (bs : List ℕ) {rest : List ℕ} → AreBlanks bs → Spells nil (91 ∷ bs ++ codes "]") (91 ∷ bs ++ codes "]") rest
  a_module_type : (bs : List ℕ) {rest : List ℕ} → Run is_blank is_blank bs → begins goes_on rest ≡ false → Spells module_type (codes "module" ++ bs ++ codes "type") (codes "module" ++ bs ++ codes "type") rest
  an_int : {bs rest : List ℕ} → IsInt bs → Spells int bs bs rest
  a_float : {bs rest : List ℕ} → IsFloat bs → Spells float bs bs rest
  a_char : {bs rest : List ℕ} → IsChar bs → Spells char bs bs rest
  a_string : {bs rest : List ℕ} → IsString bs → Spells str bs bs rest
  a_mark : {kind : Kind} {bs rest : List ℕ} → Mark kind bs → Spells kind bs bs rest
  an_operator : {bs rest : List ℕ} → Run begins_operator is_sign bs → Spells (sign_kind bs) bs bs rest
  a_hash : {bs rest : List ℕ} → Run (λ b. b == 35) is_sign bs → Spells outside bs bs rest
  a_broken_numeral : (numeral bs : List ℕ) {rest : List ℕ} → IsInt numeral ⊎ IsFloat numeral → Run goes_on goes_on bs → (IsInt (numeral ++ bs) ⊎ IsFloat (numeral ++ bs) → ⊥) → Spells outside (numeral ++ bs) (numeral ++ bs) rest
