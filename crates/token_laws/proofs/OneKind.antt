-- A spelling has one kind and one name.
use Rattle.std.proofs.Common.{◌≡◌, ◌<◌, ◌++◌, ◌∷◌, [], ℕ, List, Bool, true, false, length, get_or, sym, arith, refl, inl, inr, ap, ◌∙◌, length-append, append_assoc, append-nil}
use Rattle.std.specs.Prelude.{if◌then◌else◌, ◌==◌, ◌||◌, not, codes}
use Rattle.std.specs.List.{list_all, filter}
use Rattle.std.proofs.lemmas.List.{append_cancel_right}
use Rattle.std.proofs.lemmas.List.Folds.{list_all-append}
use Rattle.std.proofs.lemmas.List.Elements.{filter-append}
use Rattle.std.proofs.lemmas.Bool.{both_ways, and_parts}
use Rattle.std.proofs.lemmas.Bool.Decides.{nat_tests}
use Rattle.token_model.specs.Kinds.{Kind}
use Rattle.token_model.specs.Bytes.{is_blank, is_digit, is_lower, is_upper, goes_on, is_decimal, is_digit_of, begins_operator, is_sign}
use Rattle.token_model.specs.Spellings.{Run, AreBlanks, IsInt, decimal, based, IsFloat, float_with, IsFraction, no_fraction, fraction, IsExponent, no_exponent, exponent, signed_exponent, IsQuoted, IsOperator, sign_operator, word_operator, assignment, Spells, closing}
use Rattle.ml_lexer.proofs.Spelled.{run_all}
use Rattle.ml_lexer.proofs.Classes.{Class, IsModuleType, IsUnit, IsNil}
use Rattle.ml_lexer.proofs.OneGap.{tail_same}
use Rattle.token_laws.proofs.Sorts.{mark_one, lacks, IsOpNameOf, Sorted, word_sort, module_sort, upper_sort, qualifier_sort, int_sort, float_sort, broken_sort, char_sort, ty_var_sort, string_sort, paren_sort, unit_sort, op_name_sort, bracket_sort, nil_sort, brace_sort, quoted_sort, sign_mark_sort, operator_sort, plain_mark_sort, hash_sort, sorted}

-- a part of a list whose bytes all pass
all_left : (test : ℕ → Bool) (u v : List ℕ) → list_all test (u ++ v) ≡ true → list_all test u ≡ true
all_left test u v all = (and_parts (list_all test u) (list_all test v) (sym (list_all-append test u v) ∙ all)).0

-- the last part of a list whose bytes all pass
all_right : (test : ℕ → Bool) (u v : List ℕ) → list_all test (u ++ v) ≡ true → list_all test v ≡ true
all_right test u v all = (and_parts (list_all test u) (list_all test v) (sym (list_all-append test u v) ∙ all)).1

-- a lower-case letter goes on a name
lower_goes_on : (b : ℕ) → is_lower b ≡ true → goes_on b ≡ true
lower_goes_on b is = grind (arith, nat_tests)

-- an upper-case letter goes on a name
upper_goes_on : (b : ℕ) → is_upper b ≡ true → goes_on b ≡ true
upper_goes_on b is = grind (arith, nat_tests)

-- a blank doesn't go on a name
blank_no_name : (b : ℕ) → is_blank b ≡ true → goes_on b ≡ true → ⊥
blank_no_name b is name = grind (arith, nat_tests)

-- `module type` has a blank, and so is no name
no_word : (w rest : List ℕ) → list_all goes_on w ≡ true → IsModuleType w rest → ⊥
no_word w rest all ([], run, same, ends) = run
no_word w rest all (b ∷ bs, run, same, ends) =
    let inside = all_right goes_on (codes "module") (b ∷ bs ++ codes "type") (ap (list_all goes_on) (sym same) ∙ all) in
    blank_no_name b run.0 (and_parts (goes_on b) (list_all goes_on (bs ++ codes "type")) inside).0

-- a qualifier has a point, and so is no name
no_upper : (w u : List ℕ) → list_all goes_on w ≡ true → w ≡ u ++ codes "." → ⊥
no_upper w u all same = both_ways (list_all goes_on (codes ".")) refl (all_right goes_on u (codes ".") (ap (list_all goes_on) (sym same) ∙ all))

-- the letter of an exponent is no digit
exponent_no_digit : (b : ℕ) → (b == 101 || b == 69) ≡ true → is_decimal b ≡ true → ⊥
exponent_no_digit b is digit = grind (arith, nat_tests)

-- a fraction with an exponent, not both empty, isn't all digits
tail_no_digits : (f e : List ℕ) → IsFraction f → IsExponent e → (f ++ e ≡ [] → ⊥) → list_all is_decimal (f ++ e) ≡ true → ⊥
tail_no_digits f e no_fraction no_exponent some all = some refl
tail_no_digits f e no_fraction (exponent {e = b} {ds = ds} is run) some all = exponent_no_digit b is (and_parts (is_decimal b) (list_all is_decimal ds) all).0
tail_no_digits f e no_fraction (signed_exponent {e = b} {s = s} {ds = ds} is sign run) some all = exponent_no_digit b is (and_parts (is_decimal b) (list_all is_decimal (s ∷ ds)) all).0
tail_no_digits f e (fraction {ds = ds} digits) exp some all = both_ways (is_decimal 46) refl (and_parts (is_decimal 46) (list_all is_decimal (ds ++ e)) all).0

-- the second byte of a floating-point literal, which is no base's letter
abbrev in_float : ℕ → Bool
in_float b = is_decimal b || b == 46 || b == 101 || b == 69

-- no base's letter is a second byte of a floating-point literal
letter_not_in_float : (x b : ℕ) → is_digit_of x b ≡ true → in_float x ≡ true → ⊥
letter_not_in_float x b digit inside = grind (arith, nat_tests)

-- a digit may be such a byte
digit_in_float : (b : ℕ) → is_decimal b ≡ true → in_float b ≡ true
digit_in_float b is = grind (arith, nat_tests)

-- so may the letter of an exponent
exponent_in_float : (b : ℕ) → (b == 101 || b == 69) ≡ true → in_float b ≡ true
exponent_in_float b is = grind (arith, nat_tests)

-- a fraction with an exponent begins with such a byte
tail_first : (f e : List ℕ) → IsFraction f → IsExponent e → (f ++ e ≡ [] → ⊥) → in_float (get_or (f ++ e) 0 0) ≡ true
tail_first f e no_fraction no_exponent some = absurd (some refl)
tail_first f e no_fraction (exponent {e = b} is run) some = exponent_in_float b is
tail_first f e no_fraction (signed_exponent {e = b} is sign run) some = exponent_in_float b is
tail_first f e (fraction digits) exp some = refl

-- the second byte of a floating-point literal is such a byte
float_second : (ds f e : List ℕ) → Run is_digit is_decimal ds → IsFraction f → IsExponent e → (f ++ e ≡ [] → ⊥) → in_float (get_or (ds ++ (f ++ e)) 1 0) ≡ true
float_second [] f e run fr exp some = absurd run
float_second (d ∷ []) f e run fr exp some = tail_first f e fr exp some
float_second (d ∷ b ∷ bs) f e run fr exp some = digit_in_float b (and_parts (is_decimal b) (list_all is_decimal bs) run.1).0

-- digits of a base don't stand behind such a byte
based_no_float : (letter : ℕ) (ds : List ℕ) → Run (is_digit_of letter) (λ b. is_digit_of letter b || b == 95) ds → in_float letter ≡ true → ⊥
based_no_float letter [] run inside = run
based_no_float letter (b ∷ bs) run inside = letter_not_in_float letter b run.0 inside

-- a digit goes on digits
digit_decimal : (b : ℕ) → is_digit b ≡ true → is_decimal b ≡ true
digit_decimal b is = grind (arith, nat_tests)

-- no integer literal is digits with a fraction or an exponent
int_no_parts : {w : List ℕ} (ds f e : List ℕ) → w ≡ ds ++ (f ++ e) → Run is_digit is_decimal ds → IsFraction f → IsExponent e → (f ++ e ≡ [] → ⊥) → IsInt w → ⊥
int_no_parts ds f e same digits fr exp some (decimal {ds = w} run) =
    tail_no_digits f e fr exp some (all_right is_decimal ds (f ++ e) (ap (list_all is_decimal) (sym same) ∙ run_all is_digit is_decimal w digit_decimal run))
int_no_parts ds f e same digits fr exp some (based {letter = letter} {ds = bs} run) =
    based_no_float letter bs run (ap (λ (l : List ℕ). in_float (get_or l 1 0)) same ∙ float_second ds f e digits fr exp some)

-- no integer literal is a floating-point literal
int_no_float : {w : List ℕ} → IsInt w → IsFloat w → ⊥
int_no_float int (float_with ds f e digits fr exp some) = int_no_parts ds f e (append_assoc ds f e) digits fr exp some int

-- a byte that is no blank
abbrev is_solid : ℕ → Bool
is_solid b = not (is_blank b)

-- what goes on a name is no blank
name_solid : (b : ℕ) → goes_on b ≡ true → is_solid b ≡ true
name_solid b is = grind (arith, nat_tests)

-- a sign is no blank
sign_solid : (b : ℕ) → is_sign b ≡ true → is_solid b ≡ true
sign_solid b is = grind (arith, nat_tests)

-- what begins an operator is a sign
operator_sign : (b : ℕ) → begins_operator b ≡ true → is_sign b ≡ true
operator_sign b is = grind (arith, nat_tests)

-- bytes none of which is a blank are all kept
keeps_all : (test : ℕ → Bool) (l : List ℕ) → ((b : ℕ) → test b ≡ true → is_solid b ≡ true) → list_all test l ≡ true → filter is_solid l ≡ l
keeps_all test [] weaker all = refl
keeps_all test (b ∷ bs) weaker all =
    let parts = and_parts (test b) (list_all test bs) all in
    ap (λ t. if t then b ∷ filter is_solid bs else filter is_solid bs) (weaker b parts.0) ∙ ap (λ (l : List ℕ). b ∷ l) (keeps_all test bs weaker parts.1)

-- of blanks nothing is kept
blanks_go : (l : List ℕ) → AreBlanks l → filter is_solid l ≡ []
blanks_go [] all = refl
blanks_go (b ∷ bs) all =
    let parts = and_parts (is_blank b) (list_all is_blank bs) all in
    ap (λ t. if not t then b ∷ filter is_solid bs else filter is_solid bs) parts.0 ∙ blanks_go bs parts.1

-- an operator has no blank
operator_keeps : (o : List ℕ) → IsOperator o → filter is_solid o ≡ o
operator_keeps o (sign_operator run is) = keeps_all is_sign o sign_solid (run_all begins_operator is_sign o operator_sign run)
operator_keeps o (word_operator run is) = keeps_all goes_on o name_solid (run_all is_lower goes_on o lower_goes_on run)
operator_keeps o assignment = refl

-- a run has a byte
run_some : (first more : ℕ → Bool) (l : List ℕ) → Run first more l → 0 < length l
run_some first more [] run = absurd run
run_some first more (b ∷ bs) run = omega arith

-- an operator has a byte
operator_some : (o : List ℕ) → IsOperator o → 0 < length o
operator_some o (sign_operator run is) = run_some begins_operator is_sign o run
operator_some o (word_operator run is) = run_some is_lower goes_on o run
operator_some o assignment = omega arith

-- without its blanks a unit is its parentheses
unit_solid : (w : List ℕ) → IsUnit w → filter is_solid w ≡ codes "()"
unit_solid w (a, blanks, same) = ap (filter is_solid) same ∙ ap (λ (l : List ℕ). 40 ∷ l) (filter-append is_solid a (codes ")")) ∙ ap (λ (l : List ℕ). 40 ∷ l ++ codes ")") (blanks_go a blanks)

-- without its blanks an operator in parentheses is the operator between them
op_name_solid : (w n : List ℕ) → IsOpNameOf w n → filter is_solid w ≡ 40 ∷ n ++ codes ")"
op_name_solid w n (a, z, before, is, behind, same) =
    let front = 40 ∷ a in
    let inner : filter is_solid (front ++ n) ≡ 40 ∷ n = filter-append is_solid front n ∙ ap (λ (l : List ℕ). 40 ∷ l ++ filter is_solid n) (blanks_go a before) ∙ ap (λ (l : List ℕ). 40 ∷ l) (operator_keeps n is) in
    let middle : filter is_solid ((front ++ n) ++ z) ≡ 40 ∷ n = filter-append is_solid (front ++ n) z ∙ ap (λ (l : List ℕ). l ++ filter is_solid z) inner ∙ ap (λ (l : List ℕ). 40 ∷ n ++ l) (blanks_go z behind) ∙ append-nil (40 ∷ n) in
    ap (filter is_solid) same ∙ filter-append is_solid ((front ++ n) ++ z) (codes ")") ∙ ap (λ (l : List ℕ). l ++ codes ")") middle

-- an operator in parentheses has one name
op_name_one : (w n m : List ℕ) → IsOpNameOf w n → IsOpNameOf w m → n ≡ m
op_name_one w n m first second = append_cancel_right n m (codes ")") (tail_same (sym (op_name_solid w n first) ∙ op_name_solid w m second))

-- an operator in parentheses is no unit
name_no_unit : (w n : List ℕ) → IsOpNameOf w n → IsUnit w → ⊥
name_no_unit w n (a, z, before, is, behind, same) unit =
    omega (arith, operator_some n is, length-append n (codes ")"), ap length (sym (op_name_solid w n (a, z, before, is, behind, same)) ∙ unit_solid w unit))

-- an operator in parentheses is more than `(`
name_no_paren : (w n : List ℕ) → IsOpNameOf w n → w ≡ codes "(" → ⊥
name_no_paren w n name paren = omega (arith, length-append n (codes ")"), ap length (sym (op_name_solid w n name) ∙ ap (filter is_solid) paren))

-- a unit is more than `(`
unit_no_paren : (w : List ℕ) → IsUnit w → w ≡ codes "(" → ⊥
unit_no_paren w unit paren = omega (arith, ap length (sym (unit_solid w unit) ∙ ap (filter is_solid) paren))

-- a list that lacks a byte has it nowhere
lacks_not : (b : ℕ) (u v : List ℕ) → (b == b) ≡ true → lacks b (u ++ b ∷ v) ≡ true → ⊥
lacks_not b u v same all = both_ways (not (b == b)) (ap not same) (and_parts (not (b == b)) (lacks b v) (all_right (λ x. not (x == b)) u (b ∷ v) all)).0

-- `[]` has a right bracket
nil_has : (w : List ℕ) → IsNil w → lacks 93 w ≡ true → ⊥
nil_has w (a, blanks, same) lacking = lacks_not 93 (91 ∷ a) [] refl (ap (lacks 93) (sym same) ∙ lacking)

-- a quoted string has a bar
quoted_has : (w : List ℕ) → IsQuoted w → lacks 124 w ≡ true → ⊥
quoted_has w q lacking = lacks_not 124 (123 ∷ q.id) q.body refl (all_left (λ x. not (x == 124)) (123 ∷ q.id ++ 124 ∷ q.body) (closing q.id) (ap (lacks 124) (sym q.whole) ∙ lacking))

-- a mark that isn't all signs is no operator
mark_no_operator : (w : List ℕ) → list_all is_sign w ≡ false → Run begins_operator is_sign w → ⊥
mark_no_operator w mark run = both_ways (list_all is_sign w) mark (run_all begins_operator is_sign w operator_sign run)

-- a mark that doesn't begin with `#` is no run behind one
mark_no_hash : (w : List ℕ) → (get_or w 0 0 == 35) ≡ false → Run (λ b. b == 35) is_sign w → ⊥
mark_no_hash [] mark run = run
mark_no_hash (b ∷ bs) mark run = both_ways (b == 35) mark run.0

-- the same kind and the same name
abbrev Same : Kind → Kind → List ℕ → List ℕ → Type 0
Same k l n m = (k ≡ l) × (n ≡ m)

-- one kind and one name where the name is the spelling
whole : {k l : Kind} {w n m : List ℕ} → k ≡ l → n ≡ w → m ≡ w → Same k l n m
whole kind first second = (kind, first ∙ sym second)

-- two spellings of a class, of the same bytes, have one kind and one name
sort_one : {w n m rest : List ℕ} {c : Class} {k l : Kind} → Sorted w n rest c k → Sorted w m rest c l → Same k l n m
sort_one (word_sort run e) (word_sort other d) = whole refl e d
sort_one {w = w} {rest = rest} (word_sort run e) (module_sort is d) = absurd (no_word w rest (run_all is_lower goes_on w lower_goes_on run) is)
sort_one {w = w} {rest = rest} (module_sort is e) (word_sort run d) = absurd (no_word w rest (run_all is_lower goes_on w lower_goes_on run) is)
sort_one (module_sort is e) (module_sort other d) = whole refl e d
sort_one (upper_sort run e) (upper_sort other d) = whole refl e d
sort_one {w = w} {m = m} (upper_sort run e) (qualifier_sort other d) = absurd (no_upper w m (run_all is_upper goes_on w upper_goes_on run) d)
sort_one {w = w} {n = n} (qualifier_sort other e) (upper_sort run d) = absurd (no_upper w n (run_all is_upper goes_on w upper_goes_on run) e)
sort_one {n = n} {m = m} (qualifier_sort run e) (qualifier_sort other d) = (refl, append_cancel_right n m (codes ".") (sym e ∙ d))
sort_one (int_sort is e) (int_sort other d) = whole refl e d
sort_one (int_sort is e) (float_sort other d) = absurd (int_no_float is other)
sort_one (int_sort is e) (broken_sort none d) = absurd (none (inl is))
sort_one (float_sort is e) (int_sort other d) = absurd (int_no_float other is)
sort_one (float_sort is e) (float_sort other d) = whole refl e d
sort_one (float_sort is e) (broken_sort none d) = absurd (none (inr is))
sort_one (broken_sort none e) (int_sort is d) = absurd (none (inl is))
sort_one (broken_sort none e) (float_sort is d) = absurd (none (inr is))
sort_one (broken_sort none e) (broken_sort other d) = whole refl e d
sort_one (char_sort is e) (char_sort other d) = whole refl e d
sort_one {w = w} {rest = rest} (char_sort is e) (ty_var_sort var d) = absurd (var.3 w rest refl is)
sort_one {w = w} {rest = rest} (ty_var_sort var e) (char_sort is d) = absurd (var.3 w rest refl is)
sort_one (ty_var_sort var e) (ty_var_sort other d) = whole refl e d
sort_one (string_sort e) (string_sort d) = whole refl e d
sort_one (paren_sort is e) (paren_sort other d) = whole refl e d
sort_one {w = w} (paren_sort is e) (unit_sort unit d) = absurd (unit_no_paren w unit is)
sort_one {w = w} {m = m} (paren_sort is e) (op_name_sort name) = absurd (name_no_paren w m name is)
sort_one {w = w} (unit_sort unit e) (paren_sort is d) = absurd (unit_no_paren w unit is)
sort_one (unit_sort unit e) (unit_sort other d) = whole refl e d
sort_one {w = w} {m = m} (unit_sort unit e) (op_name_sort name) = absurd (name_no_unit w m name unit)
sort_one {w = w} {n = n} (op_name_sort name) (paren_sort is d) = absurd (name_no_paren w n name is)
sort_one {w = w} {n = n} (op_name_sort name) (unit_sort unit d) = absurd (name_no_unit w n name unit)
sort_one {w = w} {n = n} {m = m} (op_name_sort name) (op_name_sort other) = (refl, op_name_one w n m name other)
sort_one (bracket_sort mark lacking e) (bracket_sort other also d) = whole (mark_one mark other) e d
sort_one {w = w} (bracket_sort mark lacking e) (nil_sort is d) = absurd (nil_has w is lacking)
sort_one {w = w} (nil_sort is e) (bracket_sort mark lacking d) = absurd (nil_has w is lacking)
sort_one (nil_sort is e) (nil_sort other d) = whole refl e d
sort_one (brace_sort mark lacking e) (brace_sort other also d) = whole (mark_one mark other) e d
sort_one {w = w} (brace_sort mark lacking e) (quoted_sort q d) = absurd (quoted_has w q lacking)
sort_one {w = w} (quoted_sort q e) (brace_sort mark lacking d) = absurd (quoted_has w q lacking)
sort_one (quoted_sort q e) (quoted_sort other d) = whole refl e d
sort_one (sign_mark_sort mark without e) (sign_mark_sort other also d) = whole (mark_one mark other) e d
sort_one {w = w} (sign_mark_sort mark without e) (operator_sort run d) = absurd (mark_no_operator w without run)
sort_one {w = w} (operator_sort run e) (sign_mark_sort mark without d) = absurd (mark_no_operator w without run)
sort_one (operator_sort run e) (operator_sort other d) = whole refl e d
sort_one (plain_mark_sort mark without e) (plain_mark_sort other also d) = whole (mark_one mark other) e d
sort_one {w = w} (plain_mark_sort mark without e) (hash_sort run d) = absurd (mark_no_hash w without run)
sort_one {w = w} (hash_sort run e) (plain_mark_sort mark without d) = absurd (mark_no_hash w without run)
sort_one (hash_sort run e) (hash_sort other d) = whole refl e d

-- a spelling before what follows has one kind and one name
pub kind_one : {k l : Kind} {w n m rest : List ℕ} → Spells k w n rest → Spells l w m rest → (k ≡ l) × (n ≡ m)
kind_one first second = sort_one (sorted first) (sorted second)
