-- What may be spelled where a byte stands: one sort of spelling for each class of first bytes.
use Rattle.std.proofs.Common.{◌≡◌, ◌<◌, ◌++◌, ◌∷◌, [], ℕ, List, Bool, true, false, length, get_or, sym, subst, arith, refl, inl, inr, ap, ◌∙◌, append-nil}
use Rattle.std.specs.Prelude.{if◌then◌else◌, ◌⊎◌, ◌==◌, codes}
use Rattle.std.specs.List.{list_all}
use Rattle.std.proofs.lemmas.Bool.{eqb-true, and_from}
use Rattle.std.proofs.lemmas.Bool.Decides.{nat_tests}
use Rattle.token_model.specs.Kinds.{Kind}
use Rattle.token_model.specs.Bytes.{is_blank, is_digit, is_lower, is_upper, begins_name, goes_on, is_decimal, begins_operator, is_sign, begins}
use Rattle.token_model.specs.Spellings.{Run, AreBlanks, IsInt, decimal, based, IsFloat, float_with, IsChar, plain, escape, decimal_code, hexadecimal_code, octal_code, EndsString, IsQuoted, IsString, string, quoted_string, Mark, left_paren_mark, right_paren_mark, left_bracket_mark, right_bracket_mark, left_brace_mark, right_brace_mark, comma_mark, semi_mark, semi_semi_mark, colon_mark, dot_mark, colon_colon_mark, colon_equal_mark, left_array_sign, right_array_sign, left_less_sign, left_greater_sign, right_greater_sign, left_object_sign, right_object_sign, attribute_sign, item_attribute_sign, floating_attribute_sign, extension_sign, item_extension_sign, dots_sign, coercion_sign, IsOperator, Spells, a_word, an_upper, a_qualifier, a_ty_var, an_op_name, a_unit, a_nil, a_module_type, an_int, a_float, a_char, a_string, a_mark, an_operator, a_hash, a_broken_numeral}

-- the classes of first bytes
pub data Class : Type 0 where
  word_class : Class
  upper_class : Class
  digit_class : Class
  tick_class : Class
  quote_class : Class
  paren_class : Class
  bracket_class : Class
  brace_class : Class
  sign_class : Class
  mark_class : Class

unfoldable pub class_of : ℕ → Class
class_of b = if is_lower b then word_class else (if is_upper b then upper_class else (if is_digit b then digit_class else (if b == 39 then tick_class else (if b == 34 then quote_class else (if b == 40 then paren_class else (if b == 91 then bracket_class else (if b == 123 then brace_class else (if begins_operator b then sign_class else mark_class))))))))

pub upper_byte : (b : ℕ) → is_upper b ≡ true → class_of b ≡ upper_class
unfolding class_of
upper_byte b is = grind (arith, nat_tests)

pub digit_byte : (b : ℕ) → is_digit b ≡ true → class_of b ≡ digit_class
unfolding class_of
digit_byte b is = grind (arith, nat_tests)

pub word_byte : (b : ℕ) → is_lower b ≡ true → class_of b ≡ word_class
unfolding class_of
word_byte b is = ap (λ t. if t then word_class else (if is_upper b then upper_class else (if is_digit b then digit_class else (if b == 39 then tick_class else (if b == 34 then quote_class else (if b == 40 then paren_class else (if b == 91 then bracket_class else (if b == 123 then brace_class else (if begins_operator b then sign_class else mark_class))))))))) is

pub hash_byte : (b : ℕ) → (b == 35) ≡ true → class_of b ≡ mark_class
unfolding class_of
hash_byte b is = ap class_of (eqb-true b 35 is)

pub sign_byte : (b : ℕ) → begins_operator b ≡ true → class_of b ≡ sign_class
unfolding class_of
sign_byte b is = grind (arith, nat_tests)

-- `module type`, as whole words
abbrev pub IsModuleType : List ℕ → List ℕ → Type 0
IsModuleType w rest = (a : List ℕ) × (Run is_blank is_blank a) × (w ≡ codes "module" ++ a ++ codes "type") × (begins goes_on rest ≡ false)

abbrev pub IsQualifier : List ℕ → Type 0
IsQualifier w = (u : List ℕ) × (Run is_upper goes_on u) × (w ≡ u ++ codes ".")

abbrev pub IsLiteral : List ℕ → Type 0
IsLiteral w = IsInt w ⊎ IsFloat w

-- a literal and identifier characters or none
abbrev pub IsNumeral : List ℕ → Type 0
IsNumeral w = (u : List ℕ) × (v : List ℕ) × (IsLiteral u) × (list_all goes_on v ≡ true) × (w ≡ u ++ v)

abbrev pub IsTyVar : List ℕ → List ℕ → Type 0
IsTyVar w rest = (u : List ℕ) × (Run begins_name goes_on u) × (w ≡ 39 ∷ u) × ((spelled behind : List ℕ) → spelled ++ behind ≡ w ++ rest → IsChar spelled → ⊥)

abbrev pub IsUnit : List ℕ → Type 0
IsUnit w = (a : List ℕ) × (AreBlanks a) × (w ≡ 40 ∷ a ++ codes ")")

abbrev pub IsOpName : List ℕ → Type 0
IsOpName w = (a : List ℕ) × (o : List ℕ) × (z : List ℕ) × (AreBlanks a) × (IsOperator o) × (AreBlanks z) × (w ≡ 40 ∷ a ++ o ++ z ++ codes ")")

abbrev pub IsNil : List ℕ → Type 0
IsNil w = (a : List ℕ) × (AreBlanks a) × (w ≡ 91 ∷ a ++ codes "]")

-- the marks of each class
pub data ParenMark : List ℕ → Type 0 where
  one_paren : ParenMark (codes "(")

pub data BracketMark : List ℕ → Type 0 where
  one_bracket : BracketMark (codes "[")
  array : BracketMark (codes "[|")
  less : BracketMark (codes "[<")
  greater : BracketMark (codes "[>")
  at_one : BracketMark (codes "[@")
  at_two : BracketMark (codes "[@@")
  at_three : BracketMark (codes "[@@@")
  percent_one : BracketMark (codes "[%")
  percent_two : BracketMark (codes "[%%")

pub data BraceMark : List ℕ → Type 0 where
  one_brace : BraceMark (codes "{")
  object : BraceMark (codes "{<")

pub data SignMark : List ℕ → Type 0 where
  array_end : SignMark (codes "|]")
  greater_end : SignMark (codes ">]")
  object_end : SignMark (codes ">}")

pub data PlainMark : List ℕ → Type 0 where
  paren_end : PlainMark (codes ")")
  bracket_end : PlainMark (codes "]")
  brace_end : PlainMark (codes "}")
  a_comma : PlainMark (codes ",")
  one_semi : PlainMark (codes ";")
  two_semis : PlainMark (codes ";;")
  one_colon : PlainMark (codes ":")
  two_colons : PlainMark (codes "::")
  assign : PlainMark (codes ":=")
  coercion : PlainMark (codes ":>")
  one_dot : PlainMark (codes ".")
  two_dots : PlainMark (codes "..")

-- what is spelled where a class of bytes stands
abbrev pub Of : Class → List ℕ → List ℕ → Type 0
Of word_class w rest = Run is_lower goes_on w ⊎ IsModuleType w rest
Of upper_class w rest = Run is_upper goes_on w ⊎ IsQualifier w
Of digit_class w rest = IsNumeral w
Of tick_class w rest = IsChar w ⊎ IsTyVar w rest
Of quote_class w rest = (e : List ℕ) × (EndsString e) × (w ≡ 34 ∷ e)
Of paren_class w rest = ParenMark w ⊎ (IsUnit w ⊎ IsOpName w)
Of bracket_class w rest = BracketMark w ⊎ IsNil w
Of brace_class w rest = BraceMark w ⊎ IsQuoted w
Of sign_class w rest = SignMark w ⊎ Run begins_operator is_sign w
Of mark_class w rest = PlainMark w ⊎ Run (λ b. b == 35) is_sign w

-- a spelling has a byte, and is of its first byte's class
pub record Classed (w rest : List ℕ) : Type 0 where
  pub some : 0 < length w
  pub sort : Of (class_of (get_or w 0 0)) w rest

classed : (c : Class) (w rest : List ℕ) → 0 < length w → class_of (get_or w 0 0) ≡ c → Of c w rest → Classed w rest
classed c w rest some is of = record { some = some; sort = subst (λ (x : Class). Of x w rest) (sym is) of }

run_classed : (test more : ℕ → Bool) (c : Class) (w rest : List ℕ) → ((b : ℕ) → test b ≡ true → class_of b ≡ c) → Run test more w → (Run test more w → Of c w rest) → Classed w rest
run_classed test more c [] rest byte run of = absurd run
run_classed test more c (b ∷ bs) rest byte run of = classed c (b ∷ bs) rest (omega arith) (byte b run.0) (of run)

mark_classed : {k : Kind} {w : List ℕ} (rest : List ℕ) → Mark k w → Classed w rest
unfolding class_of
mark_classed rest left_paren_mark = classed paren_class (codes "(") rest (omega arith) refl (inl one_paren)
mark_classed rest right_paren_mark = classed mark_class (codes ")") rest (omega arith) refl (inl paren_end)
mark_classed rest left_bracket_mark = classed bracket_class (codes "[") rest (omega arith) refl (inl one_bracket)
mark_classed rest right_bracket_mark = classed mark_class (codes "]") rest (omega arith) refl (inl bracket_end)
mark_classed rest left_brace_mark = classed brace_class (codes "{") rest (omega arith) refl (inl one_brace)
mark_classed rest right_brace_mark = classed mark_class (codes "}") rest (omega arith) refl (inl brace_end)
mark_classed rest comma_mark = classed mark_class (codes ",") rest (omega arith) refl (inl a_comma)
mark_classed rest semi_mark = classed mark_class (codes ";") rest (omega arith) refl (inl one_semi)
mark_classed rest semi_semi_mark = classed mark_class (codes ";;") rest (omega arith) refl (inl two_semis)
mark_classed rest colon_mark = classed mark_class (codes ":") rest (omega arith) refl (inl one_colon)
mark_classed rest dot_mark = classed mark_class (codes ".") rest (omega arith) refl (inl one_dot)
mark_classed rest colon_colon_mark = classed mark_class (codes "::") rest (omega arith) refl (inl two_colons)
mark_classed rest colon_equal_mark = classed mark_class (codes ":=") rest (omega arith) refl (inl assign)
mark_classed rest left_array_sign = classed bracket_class (codes "[|") rest (omega arith) refl (inl array)
mark_classed rest right_array_sign = classed sign_class (codes "|]") rest (omega arith) refl (inl array_end)
mark_classed rest left_less_sign = classed bracket_class (codes "[<") rest (omega arith) refl (inl less)
mark_classed rest left_greater_sign = classed bracket_class (codes "[>") rest (omega arith) refl (inl greater)
mark_classed rest right_greater_sign = classed sign_class (codes ">]") rest (omega arith) refl (inl greater_end)
mark_classed rest left_object_sign = classed brace_class (codes "{<") rest (omega arith) refl (inl object)
mark_classed rest right_object_sign = classed sign_class (codes ">}") rest (omega arith) refl (inl object_end)
mark_classed rest attribute_sign = classed bracket_class (codes "[@") rest (omega arith) refl (inl at_one)
mark_classed rest item_attribute_sign = classed bracket_class (codes "[@@") rest (omega arith) refl (inl at_two)
mark_classed rest floating_attribute_sign = classed bracket_class (codes "[@@@") rest (omega arith) refl (inl at_three)
mark_classed rest extension_sign = classed bracket_class (codes "[%") rest (omega arith) refl (inl percent_one)
mark_classed rest item_extension_sign = classed bracket_class (codes "[%%") rest (omega arith) refl (inl percent_two)
mark_classed rest dots_sign = classed mark_class (codes "..") rest (omega arith) refl (inl two_dots)
mark_classed rest coercion_sign = classed mark_class (codes ":>") rest (omega arith) refl (inl coercion)

run_first : (w : List ℕ) → Run is_digit is_decimal w → (b : ℕ) × (bs : List ℕ) × (is_digit b ≡ true) × (w ≡ b ∷ bs)
run_first [] run = absurd run
run_first (b ∷ bs) run = (b, bs, run.0, refl)

float_first : (ds f e : List ℕ) → Run is_digit is_decimal ds → (b : ℕ) × (bs : List ℕ) × (is_digit b ≡ true) × (ds ++ f ++ e ≡ b ∷ bs)
float_first [] f e run = absurd run
float_first (b ∷ bs) f e run = (b, bs ++ f ++ e, run.0, refl)

classed_at : (c : Class) (w rest : List ℕ) (b : ℕ) (bs : List ℕ) → w ≡ b ∷ bs → class_of b ≡ c → Of c w rest → Classed w rest
classed_at c w rest b bs is byte of = classed c w rest (omega (arith, ap length is)) (ap (λ (l : List ℕ). class_of (get_or l 0 0)) is ∙ byte) of

-- a run is of bytes that all go on
run_all : (w : List ℕ) → Run goes_on goes_on w → list_all goes_on w ≡ true
run_all [] run = absurd run
run_all (b ∷ bs) run = and_from (goes_on b) (list_all goes_on bs) run.0 run.1

-- a literal begins with a digit
literal_first : (w : List ℕ) → IsLiteral w → (b : ℕ) × (bs : List ℕ) × (is_digit b ≡ true) × (w ≡ b ∷ bs)
literal_first w (inl (decimal run)) = run_first w run
literal_first w (inl (based run)) = (48, _, refl, refl)
literal_first w (inr (float_with ds f e run _ _ some)) = float_first ds f e run

pub char_first : (w : List ℕ) → IsChar w → (bs : List ℕ) × (w ≡ 39 ∷ bs)
char_first w (plain p) = (_, refl)
char_first w (escape p) = (_, refl)
char_first w (decimal_code p) = (_, refl)
char_first w (hexadecimal_code p) = (_, refl)
char_first w (octal_code p) = (_, refl)

literal_classed : (u v rest : List ℕ) → IsLiteral u → list_all goes_on v ≡ true → Classed (u ++ v) rest
literal_classed u v rest is all =
    let first = literal_first u is in
    classed_at digit_class (u ++ v) rest first.0 (first.1 ++ v) (ap (λ (l : List ℕ). l ++ v) first.3) (digit_byte first.0 first.2) (u, v, is, all, refl)

literal_alone : (w rest : List ℕ) → IsLiteral w → Classed w rest
literal_alone w rest is =
    let first = literal_first w is in
    classed_at digit_class w rest first.0 first.1 first.3 (digit_byte first.0 first.2) (w, [], is, refl, sym (append-nil w))

qualifier_classed : (u rest : List ℕ) → Run is_upper goes_on u → Classed (u ++ codes ".") rest
qualifier_classed [] rest run = absurd run
qualifier_classed (b ∷ bs) rest run = classed upper_class (b ∷ bs ++ codes ".") rest (omega arith) (upper_byte b run.0) (inr (b ∷ bs, run, refl))

string_classed : (w rest : List ℕ) → IsString w → Classed w rest
unfolding class_of
string_classed w rest (string {bs = e} ends) = classed quote_class _ _ (omega arith) refl (e, ends, refl)
string_classed w rest (quoted_string is) = classed_at brace_class w rest 123 _ is.whole refl (inr is)

-- each spelling is of the class of its first byte
pub by_class : {k : Kind} {w n rest : List ℕ} → Spells k w n rest → Classed w rest
unfolding class_of
by_class (a_word run) = run_classed is_lower goes_on word_class _ _ word_byte run (λ r. inl r)
by_class (an_upper run) = run_classed is_upper goes_on upper_class _ _ upper_byte run (λ r. inl r)
by_class (a_qualifier {bs = u} run) = qualifier_classed u _ run
by_class (a_ty_var {bs = u} run none) = classed tick_class (39 ∷ u) _ (omega arith) refl (inr (u, run, refl, none))
by_class (an_op_name a {bs = o} z blanks is behind) = classed paren_class _ _ (omega arith) refl (inr (inr (a, o, z, blanks, is, behind, refl)))
by_class (a_unit a blanks) = classed paren_class _ _ (omega arith) refl (inr (inl (a, blanks, refl)))
by_class (a_nil a blanks) = classed bracket_class _ _ (omega arith) refl (inr (a, blanks, refl))
by_class (a_module_type a run ends) = classed word_class _ _ (omega arith) refl (inr (a, run, refl, ends))
by_class (an_int is) = literal_alone _ _ (inl is)
by_class (a_float is) = literal_alone _ _ (inr is)
by_class (a_char is) = classed_at tick_class _ _ 39 (char_first _ is).0 (char_first _ is).1 refl (inl is)
by_class (a_string is) = string_classed _ _ is
by_class {rest = r} (a_mark mark) = mark_classed r mark
by_class (an_operator run) = run_classed begins_operator is_sign sign_class _ _ sign_byte run (λ r. inr r)
by_class (a_hash run) = run_classed (λ b. b == 35) is_sign mark_class _ _ hash_byte run (λ r. inr r)
by_class (a_broken_numeral u v is run broken) = literal_classed u v _ is (run_all v run)
