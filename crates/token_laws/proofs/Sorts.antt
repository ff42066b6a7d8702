-- Each spelling by the class of its first byte, with its kind and its name.
use Rattle.std.proofs.Common.{◌≡◌, ◌++◌, ◌∷◌, [], ℕ, List, Bool, true, false, get_or, sym, subst, refl, inl, inr, ap, ◌∙◌}
use Rattle.std.specs.Prelude.{if◌then◌else◌, ◌==◌, not, codes}
use Rattle.std.specs.List.{list_all}
use Rattle.std.specs.Str.{bytes_eq}
use Rattle.token_model.specs.Kinds.{Kind, upper, qualifier, ty_var, op_name, unit, nil, module_type, int, float, char, str, left_paren, right_paren, left_bracket, right_bracket, left_brace, right_brace, comma, semi, semi_semi, colon, dot, colon_colon, colon_equal, outside}
use Rattle.token_model.specs.Words.{word_kind, sign_kind}
use Rattle.token_model.specs.Bytes.{is_digit, is_lower, is_upper, goes_on, is_decimal, begins_operator, is_sign}
use Rattle.token_model.specs.Spellings.{Run, AreBlanks, IsInt, decimal, based, IsFloat, float_with, IsChar, IsString, string, quoted_string, IsQuoted, IsOperator, Mark, left_paren_mark, right_paren_mark, left_bracket_mark, right_bracket_mark, left_brace_mark, right_brace_mark, comma_mark, semi_mark, semi_semi_mark, colon_mark, dot_mark, colon_colon_mark, colon_equal_mark, left_array_sign, right_array_sign, left_less_sign, left_greater_sign, right_greater_sign, left_object_sign, right_object_sign, attribute_sign, item_attribute_sign, floating_attribute_sign, extension_sign, item_extension_sign, dots_sign, coercion_sign, Spells, a_word, an_upper, a_qualifier, a_ty_var, an_op_name, a_unit, a_nil, a_module_type, an_int, a_float, a_char, a_string, a_mark, an_operator, a_hash, a_broken_numeral}
use Rattle.ml_lexer.proofs.Classes.{Class, class_of, word_class, upper_class, digit_class, tick_class, quote_class, paren_class, bracket_class, brace_class, sign_class, mark_class, upper_byte, digit_byte, word_byte, hash_byte, sign_byte, char_first, IsModuleType, IsTyVar, IsUnit, IsNil, IsLiteral}

-- the kind of a mark
abbrev mark_kind : List ℕ → Kind
mark_kind w = if bytes_eq w (codes "(") then left_paren else (if bytes_eq w (codes ")") then right_paren else (if bytes_eq w (codes "[") then left_bracket else (if bytes_eq w (codes "]") then right_bracket else (if bytes_eq w (codes "{") then left_brace else (if bytes_eq w (codes "}") then right_brace else (if bytes_eq w (codes ",") then comma else (if bytes_eq w (codes ";") then semi else (if bytes_eq w (codes ";;") then semi_semi else (if bytes_eq w (codes ":") then colon else (if bytes_eq w (codes ".") then dot else (if bytes_eq w (codes "::") then colon_colon else (if bytes_eq w (codes ":=") then colon_equal else outside))))))))))))

-- a mark has the kind that its spelling gives
mark_kind_is : {k : Kind} {w : List ℕ} → Mark k w → k ≡ mark_kind w
mark_kind_is left_paren_mark = refl
mark_kind_is right_paren_mark = refl
mark_kind_is left_bracket_mark = refl
mark_kind_is right_bracket_mark = refl
mark_kind_is left_brace_mark = refl
mark_kind_is right_brace_mark = refl
mark_kind_is comma_mark = refl
mark_kind_is semi_mark = refl
mark_kind_is semi_semi_mark = refl
mark_kind_is colon_mark = refl
mark_kind_is dot_mark = refl
mark_kind_is colon_colon_mark = refl
mark_kind_is colon_equal_mark = refl
mark_kind_is left_array_sign = refl
mark_kind_is right_array_sign = refl
mark_kind_is left_less_sign = refl
mark_kind_is left_greater_sign = refl
mark_kind_is right_greater_sign = refl
mark_kind_is left_object_sign = refl
mark_kind_is right_object_sign = refl
mark_kind_is attribute_sign = refl
mark_kind_is item_attribute_sign = refl
mark_kind_is floating_attribute_sign = refl
mark_kind_is extension_sign = refl
mark_kind_is item_extension_sign = refl
mark_kind_is dots_sign = refl
mark_kind_is coercion_sign = refl

-- a mark has one kind
pub mark_one : {k l : Kind} {w : List ℕ} → Mark k w → Mark l w → k ≡ l
mark_one m n = mark_kind_is m ∙ sym (mark_kind_is n)

-- a byte doesn't stand in a list
abbrev pub lacks : ℕ → List ℕ → Bool
lacks b l = list_all (λ x. not (x == b)) l

-- an operator in parentheses, blanks round it
abbrev pub IsOpNameOf : List ℕ → List ℕ → Type 0
IsOpNameOf w n = (a : List ℕ) × (z : List ℕ) × (AreBlanks a) × (IsOperator n) × (AreBlanks z) × (w ≡ 40 ∷ a ++ n ++ z ++ codes ")")

-- the spellings that begin with a byte of a class, their kinds and names
pub data Sorted (w n rest : List ℕ) : Class → Kind → Type 0 where
  word_sort : Run is_lower goes_on w → n ≡ w → Sorted w n rest word_class (word_kind w)
  module_sort : IsModuleType w rest → n ≡ w → Sorted w n rest word_class module_type
  upper_sort : Run is_upper goes_on w → n ≡ w → Sorted w n rest upper_class upper
  qualifier_sort : Run is_upper goes_on n → w ≡ n ++ codes "." → Sorted w n rest upper_class qualifier
  int_sort : IsInt w → n ≡ w → Sorted w n rest digit_class int
  float_sort : IsFloat w → n ≡ w → Sorted w n rest digit_class float
  broken_sort : (IsLiteral w → ⊥) → n ≡ w → Sorted w n rest digit_class outside
  char_sort : IsChar w → n ≡ w → Sorted w n rest tick_class char
  ty_var_sort : IsTyVar w rest → n ≡ w → Sorted w n rest tick_class ty_var
  string_sort : n ≡ w → Sorted w n rest quote_class str
  paren_sort : w ≡ codes "(" → n ≡ w → Sorted w n rest paren_class left_paren
  unit_sort : IsUnit w → n ≡ w → Sorted w n rest paren_class unit
  op_name_sort : IsOpNameOf w n → Sorted w n rest paren_class op_name
  bracket_sort : {k : Kind} → Mark k w → lacks 93 w ≡ true → n ≡ w → Sorted w n rest bracket_class k
  nil_sort : IsNil w → n ≡ w → Sorted w n rest bracket_class nil
  brace_sort : {k : Kind} → Mark k w → lacks 124 w ≡ true → n ≡ w → Sorted w n rest brace_class k
  quoted_sort : IsQuoted w → n ≡ w → Sorted w n rest brace_class str
  sign_mark_sort : {k : Kind} → Mark k w → list_all is_sign w ≡ false → n ≡ w → Sorted w n rest sign_class k
  operator_sort : Run begins_operator is_sign w → n ≡ w → Sorted w n rest sign_class (sign_kind w)
  plain_mark_sort : {k : Kind} → Mark k w → (get_or w 0 0 == 35) ≡ false → n ≡ w → Sorted w n rest mark_class k
  hash_sort : Run (λ b. b == 35) is_sign w → n ≡ w → Sorted w n rest mark_class outside

-- a spelling of the class of its own first byte
abbrev pub SortedHere : Kind → List ℕ → List ℕ → List ℕ → Type 0
SortedHere k w n rest = Sorted w n rest (class_of (get_or w 0 0)) k

-- a spelling whose first byte is of a class
here : (c : Class) {k : Kind} {w n rest : List ℕ} (b : ℕ) (bs : List ℕ) → w ≡ b ∷ bs → class_of b ≡ c → Sorted w n rest c k → SortedHere k w n rest
here c {k = k} {w = w} {n = n} {rest = rest} b bs same byte s = subst (λ (x : Class). Sorted w n rest x k) (sym (ap (λ (l : List ℕ). class_of (get_or l 0 0)) same ∙ byte)) s

-- a run whose first bytes are of a class
run_here : (test more : ℕ → Bool) (c : Class) {k : Kind} (w : List ℕ) {n rest : List ℕ} → ((b : ℕ) → test b ≡ true → class_of b ≡ c) → Run test more w → Sorted w n rest c k → SortedHere k w n rest
run_here test more c [] byte run s = absurd run
run_here test more c (b ∷ bs) byte run s = here c b bs refl (byte b run.0) s

-- each mark is of its first byte's class
mark_sorted : {k : Kind} {w : List ℕ} (rest : List ℕ) → Mark k w → SortedHere k w w rest
unfolding class_of
mark_sorted rest left_paren_mark = paren_sort refl refl
mark_sorted rest right_paren_mark = plain_mark_sort right_paren_mark refl refl
mark_sorted rest left_bracket_mark = bracket_sort left_bracket_mark refl refl
mark_sorted rest right_bracket_mark = plain_mark_sort right_bracket_mark refl refl
mark_sorted rest left_brace_mark = brace_sort left_brace_mark refl refl
mark_sorted rest right_brace_mark = plain_mark_sort right_brace_mark refl refl
mark_sorted rest comma_mark = plain_mark_sort comma_mark refl refl
mark_sorted rest semi_mark = plain_mark_sort semi_mark refl refl
mark_sorted rest semi_semi_mark = plain_mark_sort semi_semi_mark refl refl
mark_sorted rest colon_mark = plain_mark_sort colon_mark refl refl
mark_sorted rest dot_mark = plain_mark_sort dot_mark refl refl
mark_sorted rest colon_colon_mark = plain_mark_sort colon_colon_mark refl refl
mark_sorted rest colon_equal_mark = plain_mark_sort colon_equal_mark refl refl
mark_sorted rest left_array_sign = bracket_sort left_array_sign refl refl
mark_sorted rest right_array_sign = sign_mark_sort right_array_sign refl refl
mark_sorted rest left_less_sign = bracket_sort left_less_sign refl refl
mark_sorted rest left_greater_sign = bracket_sort left_greater_sign refl refl
mark_sorted rest right_greater_sign = sign_mark_sort right_greater_sign refl refl
mark_sorted rest left_object_sign = brace_sort left_object_sign refl refl
mark_sorted rest right_object_sign = sign_mark_sort right_object_sign refl refl
mark_sorted rest attribute_sign = bracket_sort attribute_sign refl refl
mark_sorted rest item_attribute_sign = bracket_sort item_attribute_sign refl refl
mark_sorted rest floating_attribute_sign = bracket_sort floating_attribute_sign refl refl
mark_sorted rest extension_sign = bracket_sort extension_sign refl refl
mark_sorted rest item_extension_sign = bracket_sort item_extension_sign refl refl
mark_sorted rest dots_sign = plain_mark_sort dots_sign refl refl
mark_sorted rest coercion_sign = plain_mark_sort coercion_sign refl refl

-- digits begin with a digit
run_first : (w : List ℕ) → Run is_digit is_decimal w → (b : ℕ) × (bs : List ℕ) × (is_digit b ≡ true) × (w ≡ b ∷ bs)
run_first [] run = absurd run
run_first (b ∷ bs) run = (b, bs, run.0, refl)

-- a literal begins with a digit
literal_first : (w : List ℕ) → IsLiteral w → (b : ℕ) × (bs : List ℕ) × (is_digit b ≡ true) × (w ≡ b ∷ bs)
literal_first w (inl (decimal run)) = run_first w run
literal_first w (inl (based run)) = (48, _, refl, refl)
literal_first w (inr (float_with ds f e run _ _ some)) = let x = run_first ds run in (x.0, x.1 ++ f ++ e, x.2, ap (λ (l : List ℕ). l ++ f ++ e) x.3)

-- a literal and what follows are of the class of digits
literal_here : {k : Kind} (u v : List ℕ) {n rest : List ℕ} → IsLiteral u → Sorted (u ++ v) n rest digit_class k → SortedHere k (u ++ v) n rest
literal_here u v is s = let x = literal_first u is in here digit_class x.0 (x.1 ++ v) (ap (λ (l : List ℕ). l ++ v) x.3) (digit_byte x.0 x.2) s

-- a literal alone is of the class of digits
alone_here : {k : Kind} (w : List ℕ) {n rest : List ℕ} → IsLiteral w → Sorted w n rest digit_class k → SortedHere k w n rest
alone_here w is s = let x = literal_first w is in here digit_class x.0 x.1 x.3 (digit_byte x.0 x.2) s

-- a qualifier is of the class of upper-case letters
qualifier_here : (u rest : List ℕ) → Run is_upper goes_on u → SortedHere qualifier (u ++ codes ".") u rest
qualifier_here [] rest run = absurd run
qualifier_here (b ∷ bs) rest run = here upper_class b (bs ++ codes ".") refl (upper_byte b run.0) (qualifier_sort run refl)

-- a string is of its first byte's class
string_here : (w rest : List ℕ) → IsString w → SortedHere str w w rest
unfolding class_of
string_here w rest (string ends) = string_sort refl
string_here w rest (quoted_string q) = here brace_class 123 _ q.whole refl (quoted_sort q refl)

-- each spelling is of its first byte's class, with its kind and name
pub sorted : {k : Kind} {w n rest : List ℕ} → Spells k w n rest → SortedHere k w n rest
unfolding class_of
sorted (a_word {bs = w} run) = run_here is_lower goes_on word_class w word_byte run (word_sort run refl)
sorted (an_upper {bs = w} run) = run_here is_upper goes_on upper_class w upper_byte run (upper_sort run refl)
sorted (a_qualifier {bs = u} {rest = rest} run) = qualifier_here u rest run
sorted (a_ty_var {bs = u} run none) = ty_var_sort (u, run, refl, none) refl
sorted (an_op_name a z blanks is behind) = op_name_sort (a, z, blanks, is, behind, refl)
sorted (a_unit a blanks) = unit_sort (a, blanks, refl) refl
sorted (a_nil a blanks) = nil_sort (a, blanks, refl) refl
sorted (a_module_type a run ends) = module_sort (a, run, refl, ends) refl
sorted (an_int {bs = w} is) = alone_here w (inl is) (int_sort is refl)
sorted (a_float {bs = w} is) = alone_here w (inr is) (float_sort is refl)
sorted (a_char {bs = w} is) = here tick_class 39 (char_first w is).0 (char_first w is).1 refl (char_sort is refl)
sorted (a_string {bs = w} {rest = rest} is) = string_here w rest is
sorted {rest = rest} (a_mark mark) = mark_sorted rest mark
sorted (an_operator {bs = w} run) = run_here begins_operator is_sign sign_class w sign_byte run (operator_sort run refl)
sorted (a_hash {bs = w} run) = run_here (λ b. b == 35) is_sign mark_class w hash_byte run (hash_sort run refl)
sorted (a_broken_numeral u v is run broken) = literal_here u v is (broken_sort broken refl)
