-- Tokens end where characters do.
use Rattle.std.proofs.Common.{◌≡◌, ◌+◌, ◌≤◌, ◌<◌, ◌++◌, ◌∷◌, [], ℕ, zero, suc, List, Bool, true, false, drop, length, get_or, sym, subst, arith, refl, ap, ◌∙◌, append_assoc, append-nil, length-append}
use Rattle.std.specs.Prelude.{◌||◌, ◌==◌, nat_lt, codes}
use Rattle.std.specs.List.{list_all}
use Rattle.std.specs.Str.{IsUtf8, IsCharBoundary}
use Rattle.std.proofs.Math.Seq.{drop-append_seam, take-append_seam, get_or-append_seam}
use Rattle.std.proofs.lemmas.Bool.{and_parts, and_from, ltb-true}
use Rattle.std.proofs.lemmas.Bool.Decides.{nat_tests}
use Rattle.std.proofs.lemmas.Str.{IsUtf8-nil, IsUtf8-drop, IsUtf8-take, IsUtf8-from_ascii, IsCharBoundary-after_ascii, IsCharBoundary-at_seam}
use Rattle.token_model.specs.Kinds.{Kind}
use Rattle.token_model.specs.Bytes.{is_blank, is_digit, is_lower, is_upper, begins_name, goes_on, is_decimal, is_digit_of, begins_operator, is_sign, continues, begins}
use Rattle.token_model.specs.Spellings.{Run, IsInt, decimal, based, IsFloat, float_with, IsFraction, no_fraction, fraction, IsExponent, no_exponent, exponent, signed_exponent, IsChar, plain, escape, decimal_code, hexadecimal_code, octal_code, EndsString, end_quote, string_byte, string_escape, IsString, string, quoted_string, Mark, left_paren_mark, right_paren_mark, left_bracket_mark, right_bracket_mark, left_brace_mark, right_brace_mark, comma_mark, semi_mark, semi_semi_mark, colon_mark, dot_mark, colon_colon_mark, colon_equal_mark, left_array_sign, right_array_sign, left_less_sign, left_greater_sign, right_greater_sign, left_object_sign, right_object_sign, attribute_sign, item_attribute_sign, floating_attribute_sign, extension_sign, item_extension_sign, dots_sign, coercion_sign, IsOperator, sign_operator, word_operator, assignment, Spells, a_word, an_upper, a_qualifier, a_ty_var, an_op_name, a_unit, a_nil, a_module_type, an_int, a_float, a_char, a_string, a_mark, an_operator, a_hash, a_broken_numeral}
use Rattle.token_model.specs.Comments.{Closes, end, nested, string_inside, char_inside, byte_inside}
use Rattle.token_model.specs.Tokens.{Gap, no_gap, blank, comment, Stands, unclosed, longest, stray}
use Rattle.ml_lexer.proofs.Spelled.{all_weaker, run_all}

abbrev is_ascii : ℕ → Bool
is_ascii b = nat_lt b 128

-- some bytes, the last of which is ASCII
EndsAscii : List ℕ → Type 0
EndsAscii w = (u : List ℕ) × (b : ℕ) × (w ≡ u ++ b ∷ []) × (b < 128)

-- what stands behind an ASCII byte is a text
behind_ascii : (w rest : List ℕ) → EndsAscii w → IsUtf8 (w ++ rest) → IsUtf8 rest
unfolding EndsAscii
behind_ascii w rest ends utf8 =
    let u = ends.0 in
    let b = ends.1 in
    let bs = w ++ rest in
    let order : bs ≡ u ++ b ∷ rest = ap (λ (l : List ℕ). l ++ rest) ends.2 ∙ append_assoc u (b ∷ []) rest in
    let byte : get_or bs (length u) 0 ≡ b = ap (λ (l : List ℕ). get_or l (length u) 0) order ∙ get_or-append_seam u b rest 0 in
    let inside : length u < length bs = omega (arith, ap length order, length-append u (b ∷ rest)) in
    let cut = IsCharBoundary-after_ascii bs (length u) utf8 inside (subst (λ k. k < 128) (sym byte) ends.3) in
    let size : length u + 1 ≡ length w = omega (arith, ap length ends.2, length-append u (b ∷ [])) in
    let tail : drop (length u + 1) bs ≡ rest = ap (λ k. drop k bs) size ∙ drop-append_seam w rest in
    subst (λ (l : List ℕ). IsUtf8 l) tail (IsUtf8-drop bs (length u + 1) utf8 cut)

ends_behind : (v w : List ℕ) → EndsAscii w → EndsAscii (v ++ w)
unfolding EndsAscii
ends_behind v w e = (v ++ e.0, e.1, ap (λ (l : List ℕ). v ++ l) e.2 ∙ sym (append_assoc v e.0 (e.1 ∷ [])), e.3)

ends_cons : (x : ℕ) (w : List ℕ) → EndsAscii w → EndsAscii (x ∷ w)
unfolding EndsAscii
ends_cons x w e = (x ∷ e.0, e.1, ap (λ (l : List ℕ). x ∷ l) e.2, e.3)

one_ascii : (b : ℕ) → b < 128 → EndsAscii (b ∷ [])
unfolding EndsAscii
one_ascii b is = ([], b, refl, is)

all_ascii : (b : ℕ) (bs : List ℕ) → list_all is_ascii (b ∷ bs) ≡ true → EndsAscii (b ∷ bs)
all_ascii b [] all = one_ascii b (ltb-true b 128 (and_parts (is_ascii b) true all).0)
all_ascii b (c ∷ cs) all = ends_cons b (c ∷ cs) (all_ascii c cs (and_parts (is_ascii b) (list_all is_ascii (c ∷ cs)) all).1)

some_ascii : (w : List ℕ) → 0 < length w → list_all is_ascii w ≡ true → EndsAscii w
some_ascii [] some all = absurd (omega arith)
some_ascii (b ∷ bs) some all = all_ascii b bs all

name_ascii : (b : ℕ) → goes_on b ≡ true → is_ascii b ≡ true
name_ascii b is = grind (arith, nat_tests)

sign_ascii : (b : ℕ) → is_sign b ≡ true → is_ascii b ≡ true
sign_ascii b is = grind (arith, nat_tests)

decimal_ascii : (b : ℕ) → is_decimal b ≡ true → is_ascii b ≡ true
decimal_ascii b is = grind (arith, nat_tests)

run_some : (first more : ℕ → Bool) (w : List ℕ) → Run first more w → 0 < length w
run_some first more [] run = absurd run
run_some first more (b ∷ bs) run = omega arith

run_ascii : (first more : ℕ → Bool) (w : List ℕ) → ((b : ℕ) → first b ≡ true → more b ≡ true) → ((b : ℕ) → more b ≡ true → is_ascii b ≡ true) → Run first more w → (EndsAscii w) × (list_all is_ascii w ≡ true)
run_ascii first more w weaker ascii run = let all = all_weaker more is_ascii w ascii (run_all first more w weaker run) in (some_ascii w (run_some first more w run) all, all)

lower_name : (b : ℕ) → is_lower b ≡ true → goes_on b ≡ true
lower_name b is = grind (arith, nat_tests)

upper_name : (b : ℕ) → is_upper b ≡ true → goes_on b ≡ true
upper_name b is = grind (arith, nat_tests)

begun_name : (b : ℕ) → begins_name b ≡ true → goes_on b ≡ true
begun_name b is = grind (arith, nat_tests)

digit_decimal : (b : ℕ) → is_digit b ≡ true → is_decimal b ≡ true
digit_decimal b is = grind (arith, nat_tests)

operator_sign : (b : ℕ) → begins_operator b ≡ true → is_sign b ≡ true
operator_sign b is = grind (arith, nat_tests)

based_ascii : (letter b : ℕ) → (is_digit_of letter b || b == 95) ≡ true → is_ascii b ≡ true
based_ascii letter b is = grind (arith, nat_tests)

based_more : (letter b : ℕ) → is_digit_of letter b ≡ true → (is_digit_of letter b || b == 95) ≡ true
based_more letter b is = ap (λ t. t || b == 95) is

int_ends : (w : List ℕ) → IsInt w → EndsAscii w
int_ends w (decimal run) = (run_ascii is_digit is_decimal w digit_decimal decimal_ascii run).0
int_ends w (based {letter = k} {ds = ds} run) = ends_cons 48 (k ∷ ds) (ends_cons k ds (run_ascii (is_digit_of k) (λ b. is_digit_of k b || b == 95) ds (based_more k) (based_ascii k) run).0)

fraction_ends : (ds f : List ℕ) → EndsAscii ds → IsFraction f → EndsAscii (ds ++ f)
fraction_ends ds f ends no_fraction = subst (λ (l : List ℕ). EndsAscii l) (sym (append-nil ds)) ends
fraction_ends ds f ends (fraction {ds = fs} all) = ends_behind ds (46 ∷ fs) (all_ascii 46 fs (all_weaker is_decimal is_ascii fs decimal_ascii all))

exponent_ends : (ds e : List ℕ) → EndsAscii ds → IsExponent e → EndsAscii (ds ++ e)
exponent_ends ds e ends no_exponent = subst (λ (l : List ℕ). EndsAscii l) (sym (append-nil ds)) ends
exponent_ends ds e ends (exponent {e = c} {ds = es} letter run) = ends_behind ds (c ∷ es) (ends_cons c es (run_ascii is_digit is_decimal es digit_decimal decimal_ascii run).0)
exponent_ends ds e ends (signed_exponent {e = c} {s = s} {ds = es} letter sign run) = ends_behind ds (c ∷ s ∷ es) (ends_cons c (s ∷ es) (ends_cons s es (run_ascii is_digit is_decimal es digit_decimal decimal_ascii run).0))

float_ends : (w : List ℕ) → IsFloat w → EndsAscii w
float_ends w (float_with ds f e run frac expo some) = exponent_ends (ds ++ f) e (fraction_ends ds f (run_ascii is_digit is_decimal ds digit_decimal decimal_ascii run).0 frac) expo

string_ends : (w : List ℕ) → EndsString w → EndsAscii w
string_ends w end_quote = one_ascii 34 (omega arith)
string_ends w (string_byte {b = b} {bs = bs} other ends) = ends_cons b bs (string_ends bs ends)
string_ends w (string_escape {b = b} {bs = bs} ends) = ends_cons 92 (b ∷ bs) (ends_cons b bs (string_ends bs ends))

text_ends : (w : List ℕ) → IsString w → EndsAscii w
text_ends w (string {bs = bs} ends) = ends_cons 34 bs (string_ends bs ends)
text_ends w (quoted_string q) = subst (λ (l : List ℕ). EndsAscii l) (sym q.whole) (ends_behind (123 ∷ q.id ++ 124 ∷ q.body) (124 ∷ q.id ++ 125 ∷ []) (ends_behind (124 ∷ q.id) (125 ∷ []) (one_ascii 125 (omega arith))))

char_ends : (w : List ℕ) → IsChar w → EndsAscii w
char_ends w (plain {c = c} is) = ends_behind (39 ∷ c ∷ []) (39 ∷ []) (one_ascii 39 (omega arith))
char_ends w (escape {c = c} is) = ends_behind (39 ∷ 92 ∷ c ∷ []) (39 ∷ []) (one_ascii 39 (omega arith))
char_ends w (decimal_code {a = a} {b = b} {c = c} is) = ends_behind (39 ∷ 92 ∷ a ∷ b ∷ c ∷ []) (39 ∷ []) (one_ascii 39 (omega arith))
char_ends w (hexadecimal_code {a = a} {b = b} is) = ends_behind (39 ∷ 92 ∷ 120 ∷ a ∷ b ∷ []) (39 ∷ []) (one_ascii 39 (omega arith))
char_ends w (octal_code {a = a} {b = b} {c = c} is) = ends_behind (39 ∷ 92 ∷ 111 ∷ a ∷ b ∷ c ∷ []) (39 ∷ []) (one_ascii 39 (omega arith))

mark_ends : {k : Kind} {w : List ℕ} → Mark k w → EndsAscii w
mark_ends left_paren_mark = all_ascii 40 [] refl
mark_ends right_paren_mark = all_ascii 41 [] refl
mark_ends left_bracket_mark = all_ascii 91 [] refl
mark_ends right_bracket_mark = all_ascii 93 [] refl
mark_ends left_brace_mark = all_ascii 123 [] refl
mark_ends right_brace_mark = all_ascii 125 [] refl
mark_ends comma_mark = all_ascii 44 [] refl
mark_ends semi_mark = all_ascii 59 [] refl
mark_ends semi_semi_mark = all_ascii 59 (codes ";") refl
mark_ends colon_mark = all_ascii 58 [] refl
mark_ends dot_mark = all_ascii 46 [] refl
mark_ends colon_colon_mark = all_ascii 58 (codes ":") refl
mark_ends colon_equal_mark = all_ascii 58 (codes "=") refl
mark_ends left_array_sign = all_ascii 91 (codes "|") refl
mark_ends right_array_sign = all_ascii 124 (codes "]") refl
mark_ends left_less_sign = all_ascii 91 (codes "<") refl
mark_ends left_greater_sign = all_ascii 91 (codes ">") refl
mark_ends right_greater_sign = all_ascii 62 (codes "]") refl
mark_ends left_object_sign = all_ascii 123 (codes "<") refl
mark_ends right_object_sign = all_ascii 62 (codes "}") refl
mark_ends attribute_sign = all_ascii 91 (codes "@") refl
mark_ends item_attribute_sign = all_ascii 91 (codes "@@") refl
mark_ends floating_attribute_sign = all_ascii 91 (codes "@@@") refl
mark_ends extension_sign = all_ascii 91 (codes "%") refl
mark_ends item_extension_sign = all_ascii 91 (codes "%%") refl
mark_ends dots_sign = all_ascii 46 (codes ".") refl
mark_ends coercion_sign = all_ascii 58 (codes ">") refl

hash_ends : (w : List ℕ) → Run (λ b. b == 35) is_sign w → EndsAscii w
hash_ends [] run = absurd run
hash_ends (b ∷ bs) run = all_ascii b bs (and_from (is_ascii b) (list_all is_ascii bs) (hash_ascii b run.0) (all_weaker is_sign is_ascii bs sign_ascii run.1))
  where
    hash_ascii : (x : ℕ) → (x == 35) ≡ true → is_ascii x ≡ true
    hash_ascii x is = grind (arith, nat_tests)

-- each spelling ends with an ASCII byte
spelled_ends : {k : Kind} {w n rest : List ℕ} → Spells k w n rest → EndsAscii w
spelled_ends (a_word {bs = w} run) = (run_ascii is_lower goes_on w lower_name name_ascii run).0
spelled_ends (an_upper {bs = w} run) = (run_ascii is_upper goes_on w upper_name name_ascii run).0
spelled_ends (a_qualifier {bs = w} run) = ends_behind w (codes ".") (one_ascii 46 (omega arith))
spelled_ends (a_ty_var {bs = w} run none) = ends_cons 39 w (run_ascii begins_name goes_on w begun_name name_ascii run).0
spelled_ends (an_op_name a {bs = o} z before is behind) = ends_behind (40 ∷ a ++ o ++ z) (codes ")") (one_ascii 41 (omega arith))
spelled_ends (a_unit a blanks) = ends_behind (40 ∷ a) (codes ")") (one_ascii 41 (omega arith))
spelled_ends (a_nil a blanks) = ends_behind (91 ∷ a) (codes "]") (one_ascii 93 (omega arith))
spelled_ends (a_module_type a run ends) = ends_behind (codes "module" ++ a) (codes "type") (all_ascii 116 (codes "ype") refl)
spelled_ends (an_int {bs = w} is) = int_ends w is
spelled_ends (a_float {bs = w} is) = float_ends w is
spelled_ends (a_char {bs = w} is) = char_ends w is
spelled_ends (a_string {bs = w} is) = text_ends w is
spelled_ends (a_mark mark) = mark_ends mark
spelled_ends (an_operator {bs = w} run) = (run_ascii begins_operator is_sign w operator_sign sign_ascii run).0
spelled_ends (a_hash {bs = w} run) = hash_ends w run
spelled_ends (a_broken_numeral u v is run broken) = ends_behind u v (run_ascii goes_on goes_on v (λ b is. is) name_ascii run).0

-- a list of ASCII bytes is a text
ascii_text : (w : List ℕ) → list_all is_ascii w ≡ true → IsUtf8 w
ascii_text w all = IsUtf8-from_ascii w (λ i. byte w i all)
  where
    byte : (l : List ℕ) (i : ℕ) → list_all is_ascii l ≡ true → get_or l i 0 < 128
    byte [] i all2 = omega arith
    byte (b ∷ l) zero all2 = ltb-true b 128 (and_parts (is_ascii b) (list_all is_ascii l) all2).0
    byte (b ∷ l) (suc i) all2 = byte l i (and_parts (is_ascii b) (list_all is_ascii l) all2).1

operator_text : (o : List ℕ) → IsOperator o → IsUtf8 o
operator_text o (sign_operator run kind) = ascii_text o (run_ascii begins_operator is_sign o operator_sign sign_ascii run).1
operator_text o (word_operator run kind) = ascii_text o (run_ascii is_lower goes_on o lower_name name_ascii run).1
operator_text o assignment = ascii_text (codes ":=") refl

-- a name is a text where the spelling is
spelled_name : {k : Kind} {w n rest : List ℕ} → Spells k w n rest → IsUtf8 w → IsUtf8 n
spelled_name (a_word run) utf8 = utf8
spelled_name (an_upper run) utf8 = utf8
spelled_name (a_qualifier {bs = w} run) utf8 = ascii_text w (run_ascii is_upper goes_on w upper_name name_ascii run).1
spelled_name (a_ty_var run none) utf8 = utf8
spelled_name (an_op_name a {bs = o} z before is behind) utf8 = operator_text o is
spelled_name (a_unit a blanks) utf8 = utf8
spelled_name (a_nil a blanks) utf8 = utf8
spelled_name (a_module_type a run ends) utf8 = utf8
spelled_name (an_int is) utf8 = utf8
spelled_name (a_float is) utf8 = utf8
spelled_name (a_char is) utf8 = utf8
spelled_name (a_string is) utf8 = utf8
spelled_name (a_mark mark) utf8 = utf8
spelled_name (an_operator run) utf8 = utf8
spelled_name (a_hash run) utf8 = utf8
spelled_name (a_broken_numeral u v is run broken) utf8 = utf8

front_text : (w rest : List ℕ) → IsUtf8 (w ++ rest) → IsUtf8 rest → IsUtf8 w
front_text w rest all tail = subst (λ (l : List ℕ). IsUtf8 l) (take-append_seam w rest) (IsUtf8-take (w ++ rest) (length w) all (IsCharBoundary-at_seam (w ++ rest) w rest refl tail))

-- behind a character's bytes stands a text
behind_char : (w rest : List ℕ) → IsUtf8 (w ++ rest) → begins continues rest ≡ false → IsUtf8 rest
behind_char w [] utf8 stops = IsUtf8-nil
behind_char w (b ∷ rest) utf8 stops =
    let bs = w ++ b ∷ rest in
    let byte : get_or bs (length w) 0 ≡ b = get_or-append_seam w b rest 0 in
    let lead : 128 ≤ b → 192 ≤ b = λ high. grind (arith, nat_tests) in
    let cut : IsCharBoundary bs (length w) = (omega (arith, length-append w (b ∷ rest)), λ inside high. subst (λ k. 192 ≤ k) (sym byte) (lead (subst (λ k. 128 ≤ k) byte high))) in
    subst (λ (l : List ℕ). IsUtf8 l) (drop-append_seam w (b ∷ rest)) (IsUtf8-drop bs (length w) utf8 cut)

-- what stands behind a token, and its name, are texts
pub rest_text : {k : Kind} {w n rest : List ℕ} → Stands k w n rest → IsUtf8 (w ++ rest) → IsUtf8 rest
rest_text (unclosed u) utf8 = IsUtf8-nil
rest_text (longest {bytes = w} {rest = rest} ends no_comment l) utf8 = behind_ascii w rest (spelled_ends l.spelled) utf8
rest_text (stray {b = b} {bs = bs} {rest = rest} ends no_comment no_blank none all stops) utf8 = behind_char (b ∷ bs) rest utf8 stops

pub name_text : {k : Kind} {w n rest : List ℕ} → Stands k w n rest → IsUtf8 (w ++ rest) → IsUtf8 n
name_text {w = w} {rest = rest} (unclosed u) utf8 = front_text w [] utf8 IsUtf8-nil
name_text {w = w} {rest = rest} (longest ends no_comment l) utf8 = spelled_name l.spelled (front_text w rest utf8 (behind_ascii w rest (spelled_ends l.spelled) utf8))
name_text {rest = rest} (stray {b = b} {bs = bs} ends no_comment no_blank none all stops) utf8 = front_text (b ∷ bs) rest utf8 (behind_char (b ∷ bs) rest utf8 stops)

-- a comment ends with `)`
closes_paren : {bs rest : List ℕ} → Closes bs rest → (u : List ℕ) × (EndsAscii u) × (bs ≡ u ++ rest)
closes_paren end = (codes "*)", ends_cons 42 (codes ")") (one_ascii 41 (omega arith)), refl)
closes_paren (nested {bs = bs} middle {rest = rest} inner outer) =
    let i = closes_paren inner in
    let o = closes_paren outer in
    (40 ∷ 42 ∷ i.0 ++ o.0, ends_behind (40 ∷ 42 ∷ i.0) o.0 o.1, ap (λ (l : List ℕ). 40 ∷ 42 ∷ l) (i.2 ∙ ap (λ (l : List ℕ). i.0 ++ l) o.2 ∙ sym (append_assoc i.0 o.0 rest)))
closes_paren (string_inside w bs {rest = rest} is more) = let m = closes_paren more in (w ++ m.0, ends_behind w m.0 m.1, ap (λ (l : List ℕ). w ++ l) m.2 ∙ sym (append_assoc w m.0 rest))
closes_paren (char_inside w bs {rest = rest} is more) = let m = closes_paren more in (w ++ m.0, ends_behind w m.0 m.1, ap (λ (l : List ℕ). w ++ l) m.2 ∙ sym (append_assoc w m.0 rest))
closes_paren (byte_inside {b = b} is more) = let m = closes_paren more in (b ∷ m.0, ends_cons b m.0 m.1, ap (λ (l : List ℕ). b ∷ l) m.2)

blank_ascii : (b : ℕ) → is_blank b ≡ true → b < 128
blank_ascii b is = grind (arith, nat_tests)

-- what stands behind a gap is a text
pub gap_text : {bs rest : List ℕ} → Gap bs rest → IsUtf8 bs → IsUtf8 rest
gap_text no_gap utf8 = utf8
gap_text (blank {b = b} {bs = bs} is gap) utf8 = gap_text gap (behind_ascii (b ∷ []) bs (one_ascii b (blank_ascii b is)) utf8)
gap_text (comment {bs = bs} middle closes gap) utf8 =
    let c = closes_paren closes in
    gap_text gap (behind_ascii (40 ∷ 42 ∷ c.0) middle (ends_cons 40 (42 ∷ c.0) (ends_cons 42 c.0 c.1)) (subst (λ (l : List ℕ). IsUtf8 (40 ∷ 42 ∷ l)) c.2 utf8))
