-- What begins with a quote of either kind, or with `{`.
use Rattle.std.proofs.Common.{◌≡◌, ◌+◌, ◌≤◌, ◌<◌, ◌++◌, ◌∷◌, [], ℕ, List, true, false, take, drop, length, get_or, sym, subst, arith, refl, ap, ◌∙◌, length-append, length-take, inl, inr, Option, Some, None}
use Rattle.std.specs.Prelude.{if◌then◌else◌, ◌==◌, nat_lt, ◌⊎◌}
use Rattle.std.proofs.lemmas.List.{take-append-drop}
use Rattle.std.proofs.lemmas.Bool.{and_from, eqb-false, eq-eqb, both_ways, ltb-true, lt-ltb}
use Rattle.std.proofs.lemmas.Bool.Decides.{nat_tests}
use Rattle.token_model.specs.Kinds.{outside, str, char, ty_var, left_brace}
use Rattle.token_model.specs.Bytes.{goes_on, begins_name}
use Rattle.token_model.specs.Tokens.{IsUnclosed, unclosed_string, unclosed_quoted}
use Rattle.token_model.specs.Spellings.{Run, EndsString, IsQuoted, IsString, string, quoted_string, IsChar, a_mark, a_string, a_char, a_ty_var, left_brace_mark, left_object_sign}
use Rattle.ml_lexer.specs.Scans.{found, run_length, run_end, string_end, string_found, quote_found, opens_quoted, quoted_end, brace_found, char_size, tick_found, stray_found}
use Rattle.ml_lexer.proofs.Runs.{front_in_run, run_le}
use Rattle.ml_lexer.proofs.Literals.{string_end_is, string_end_found}
use Rattle.ml_lexer.proofs.Quoted.{first_known, quoted_is, quoted_found, opens_from}
use Rattle.ml_lexer.proofs.Chars.{char_size_is, char_found}
use Rattle.ml_lexer.proofs.Inside.{two_known}
use Rattle.ml_lexer.proofs.Classes.{BraceMark, one_brace, object, char_first, quote_class, brace_class, tick_class}
use Rattle.ml_lexer.proofs.Spelled.{plainly, run_all, run_front}
use Rattle.ml_lexer.proofs.SpelledMarks.{FoundIs, is_spelled, is_stray, is_unclosed}

some_same : {x y : ℕ} → Some x ≡ Some y → x ≡ y
some_same e = cc

none_not_some : {A : Type 0} {x : A} → None ≡ Some x → ⊥
none_not_some e = cc

tail_same : {b c : ℕ} {bs cs : List ℕ} → b ∷ bs ≡ c ∷ cs → bs ≡ cs
tail_same e = cc

head_same : {b c : ℕ} {bs cs : List ℕ} → b ∷ bs ≡ c ∷ cs → b ≡ c
head_same e = cc

-- a string at the front ends where the scan ends
string_size : (bs e behind : List ℕ) → EndsString e → bs ≡ 34 ∷ e ++ behind → string_end false 1 (drop 1 bs) ≡ Some (1 + length e)
string_size bs e behind ends whole = ap (λ (l : List ℕ). string_end false 1 (drop 1 l)) whole ∙ string_end_is e behind 1 ends

string_not_there : (l spelled rest : List ℕ) → string_end false 1 l ≡ None → 34 ∷ l ≡ spelled ++ rest → IsString spelled → ⊥
string_not_there l spelled rest none same (string {bs = e} ends) = none_not_some (sym none ∙ string_size (34 ∷ l) e rest ends same)
string_not_there l spelled rest none same (quoted_string q) = absurd (omega (arith, ap (λ (x : List ℕ). get_or x 0 0) same ∙ (quoted_is spelled rest q).0))

-- a string whose end isn't found has none
pub string_unclosed : (bs : List ℕ) → get_or bs 0 0 ≡ 34 → string_end false 1 (drop 1 bs) ≡ None → IsUnclosed bs
string_unclosed [] is none = absurd (omega (arith, is))
string_unclosed (b ∷ bs) is none = subst (λ x. IsUnclosed (x ∷ bs)) (sym is) (unclosed_string (λ spelled rest same text. string_not_there bs spelled rest none same text))

quote_by : (o : Option ℕ) (bs : List ℕ) → get_or bs 0 0 ≡ 34 → string_end false 1 (drop 1 bs) ≡ o → FoundIs quote_class bs (string_found o bs)
quote_by o [] is eq = absurd (omega (arith, is))
quote_by (Some n) (b ∷ bs) is eq =
    let f = string_end_found false 1 n bs eq in
    let whole : b ∷ bs ≡ (34 ∷ f.0) ++ f.1 = ap (λ x. x ∷ bs) is ∙ ap (λ (l : List ℕ). 34 ∷ l) f.2 in
    is_spelled (plainly quote_class (b ∷ bs) (34 ∷ f.0) f.1 str n whole (omega (arith, f.4)) (a_string (string f.3)) (λ front behind same of.
    omega (arith, some_same (sym (string_size (b ∷ bs) of.0 behind of.1 (same ∙ ap (λ (l : List ℕ). l ++ behind) of.2)) ∙ eq), ap length of.2)))
quote_by None (b ∷ bs) is eq = is_unclosed (string_unclosed (b ∷ bs) is eq)

pub quote_is : (bs : List ℕ) → get_or bs 0 0 ≡ 34 → FoundIs quote_class bs (quote_found bs)
unfolding quote_found
quote_is bs is = quote_by (string_end false 1 (drop 1 bs)) bs is refl

-- a mark that `{` begins is no longer than what is found, where no quoted string begins
brace_size : {front : List ℕ} (bs behind : List ℕ) → bs ≡ front ++ behind → BraceMark front → (length front ≤ 1) ⊎ ((get_or bs 1 0 ≡ 60) × (length front ≡ 2))
brace_size bs behind whole one_brace = inl (omega arith)
brace_size bs behind whole object = inr (ap (λ (l : List ℕ). get_or l 1 0) whole, refl)

-- where a quoted string begins, a mark has one byte
brace_short : {front : List ℕ} (bs behind : List ℕ) → bs ≡ front ++ behind → opens_quoted bs ≡ true → BraceMark front → length front ≤ 1
brace_short bs behind whole opened one_brace = omega arith
brace_short bs behind whole opened object = absurd (both_ways (opens_quoted bs) (ap opens_quoted whole) opened)

quoted_not_there : (bs spelled rest : List ℕ) → get_or bs 0 0 ≡ 123 → quoted_end bs ≡ None → bs ≡ spelled ++ rest → IsString spelled → ⊥
quoted_not_there bs spelled rest is none same (string {bs = e} ends) = absurd (omega (arith, is, ap (λ (x : List ℕ). get_or x 0 0) same))
quoted_not_there bs spelled rest is none same (quoted_string q) = none_not_some (sym none ∙ ap quoted_end same ∙ (quoted_is spelled rest q).2)

-- a quoted string whose end isn't found has none
pub quoted_unclosed : (bs : List ℕ) → get_or bs 0 0 ≡ 123 → opens_quoted bs ≡ true → quoted_end bs ≡ None → IsUnclosed bs
quoted_unclosed bs is opened none = unclosed_quoted (opens_from bs is opened) (λ spelled rest same text. quoted_not_there bs spelled rest is none same text)

quoted_by : (o : Option ℕ) (bs : List ℕ) → get_or bs 0 0 ≡ 123 → opens_quoted bs ≡ true → quoted_end bs ≡ o → FoundIs brace_class bs (string_found o bs)
quoted_by (Some n) bs is opened eq =
    let f = quoted_found bs n is opened eq in
    let long : 0 < length f.0 = omega (arith, ap length f.3.whole, length-append (123 ∷ f.3.id) (124 ∷ f.3.body), length-append (123 ∷ f.3.id ++ 124 ∷ f.3.body) (124 ∷ f.3.id ++ 125 ∷ [])) in
    is_spelled (plainly brace_class bs f.0 f.1 str n f.2 f.4 (a_string (quoted_string f.3)) (λ front behind whole of. elim of [
      | inl m ↦ omega (arith, brace_short bs behind whole opened m, f.4, long)
      | inr q ↦ omega (arith, some_same (sym (ap quoted_end whole ∙ (quoted_is front behind q).2) ∙ eq))
    ]))
quoted_by None bs is opened eq = is_unclosed (quoted_unclosed bs is opened eq)

-- a quoted string begins where one stands
quoted_opens : (bs front behind : List ℕ) → bs ≡ front ++ behind → IsQuoted front → opens_quoted bs ≡ true
quoted_opens bs front behind whole q = ap opens_quoted whole ∙ (quoted_is front behind q).1

pub brace_is : (bs : List ℕ) → get_or bs 0 0 ≡ 123 → FoundIs brace_class bs (brace_found bs)
unfolding brace_found
brace_is bs is =
    elim (opens_quoted bs) as (λ t. opens_quoted bs ≡ t → FoundIs brace_class bs (if t then string_found (quoted_end bs) bs else (if get_or bs 1 0 == 60 then found outside 2 else found left_brace 1))) [
      | true ↦ λ e. quoted_by (quoted_end bs) bs is e refl
      | false ↦ λ e. elim (get_or bs 1 0 == 60) as (λ t. (get_or bs 1 0 == 60) ≡ t → FoundIs brace_class bs (if t then found outside 2 else found left_brace 1)) [
        | true ↦ λ e2.
            let known = two_known 123 60 bs (and_from (get_or bs 0 0 == 123) (get_or bs 1 0 == 60) (eq-eqb (get_or bs 0 0) 123 is) e2) (omega arith) (omega arith) in
            is_spelled (plainly brace_class bs (123 ∷ 60 ∷ []) (drop 2 bs) outside 2 known refl (a_mark left_object_sign) (λ front behind whole of. elim of [
              | inl m ↦ elim (brace_size bs behind whole m) [ inl one ↦ omega (arith, one) | inr two ↦ omega (arith, two.1) ]
              | inr q ↦ absurd (both_ways (opens_quoted bs) e (quoted_opens bs front behind whole q))
            ]))
        | false ↦ λ e2. is_spelled (plainly brace_class bs (123 ∷ []) (drop 1 bs) left_brace 1 (first_known bs 123 is (omega arith)) refl (a_mark left_brace_mark) (λ front behind whole of. elim of [
          | inl m ↦ elim (brace_size bs behind whole m) [ inl one ↦ one | inr two ↦ absurd (eqb-false (get_or bs 1 0) 60 e2 two.0) ]
          | inr q ↦ absurd (both_ways (opens_quoted bs) e (quoted_opens bs front behind whole q))
        ]))
      ] refl
    ] refl

name_goes_on : (b : ℕ) → begins_name b ≡ true → goes_on b ≡ true
name_goes_on b is = grind (arith, nat_tests)

-- a character literal at the front is what is found
char_there : (bs front behind : List ℕ) → bs ≡ front ++ behind → IsChar front → char_size bs ≡ length front
char_there bs front behind whole is = ap char_size whole ∙ char_size_is front behind is

char_some : (front : List ℕ) → IsChar front → 0 < length front
char_some front is = omega (arith, ap length (char_first front is).1)

-- a type variable has a name behind its quote
ty_var_first : (bs front behind : List ℕ) → bs ≡ front ++ behind → (u : List ℕ) → Run begins_name goes_on u → front ≡ 39 ∷ u → begins_name (get_or bs 1 0) ≡ true
ty_var_first bs front behind whole [] run is = absurd run
ty_var_first bs front behind whole (b ∷ u) run is = ap (λ (l : List ℕ). begins_name (get_or l 1 0)) (whole ∙ ap (λ (l : List ℕ). l ++ behind) is) ∙ run.0

name_there : (b : ℕ) (bs : List ℕ) → b ≡ 39 → begins_name (get_or bs 0 0) ≡ true → ((spelled behind : List ℕ) → b ∷ bs ≡ spelled ++ behind → IsChar spelled → ⊥) → FoundIs tick_class (b ∷ bs) (found ty_var (run_end goes_on 1 (b ∷ bs)))
name_there b [] is begins none = absurd (both_ways (begins_name 0) refl begins)
name_there b (c ∷ cs) is begins none =
    let n = run_length goes_on (c ∷ cs) in
    let u = take n (c ∷ cs) in
    let rest = drop n (c ∷ cs) in
    let cut : c ∷ cs ≡ u ++ rest = sym (take-append-drop n (c ∷ cs)) in
    let whole : b ∷ c ∷ cs ≡ (39 ∷ u) ++ rest = ap (λ x. x ∷ c ∷ cs) is ∙ ap (λ (l : List ℕ). 39 ∷ l) cut in
    let run = run_front begins_name goes_on (c ∷ cs) (omega arith) begins (name_goes_on c begins) in
    is_spelled (plainly tick_class (b ∷ c ∷ cs) (39 ∷ u) rest ty_var (1 + n) whole (omega (arith, run_le goes_on (c ∷ cs), length-take n (c ∷ cs))) (a_ty_var run (λ spelled behind same i. none spelled behind (whole ∙ sym same) i)) (λ front behind same of. elim of [
      | inl i ↦ absurd (none front behind same i)
      | inr v ↦ omega (arith, ap length v.2, later v.0 behind v.1 (tail_same (same ∙ ap (λ (l : List ℕ). l ++ behind) v.2)))
    ]))
  where
    later : (v behind : List ℕ) → Run begins_name goes_on v → c ∷ cs ≡ v ++ behind → length v ≤ run_length goes_on (c ∷ cs)
    later v behind run same = subst (λ (l : List ℕ). length v ≤ run_length goes_on l) (sym same) (front_in_run goes_on v behind (run_all begins_name goes_on v name_goes_on run))

no_name : (b : ℕ) (bs : List ℕ) → b ≡ 39 → 0 < char_size (b ∷ bs) → FoundIs tick_class (b ∷ bs) (found char (char_size (b ∷ bs)))
no_name b bs is some =
    let f = char_found (b ∷ bs) is some in
    is_spelled (plainly tick_class (b ∷ bs) f.0 f.1 char (char_size (b ∷ bs)) f.2 f.4 (a_char f.3) (λ front behind same of. elim of [
      | inl i ↦ omega (arith, char_there (b ∷ bs) front behind same i)
      | inr v ↦ absurd (v.3 f.0 f.1 (sym f.2 ∙ same) f.3)
    ]))

pub tick_is : (bs : List ℕ) → get_or bs 0 0 ≡ 39 → FoundIs tick_class bs (tick_found bs)
unfolding tick_found
tick_is [] is = absurd (omega (arith, is))
tick_is (b ∷ bs) is =
    elim (nat_lt 0 (char_size (b ∷ bs))) as (λ t. nat_lt 0 (char_size (b ∷ bs)) ≡ t → FoundIs tick_class (b ∷ bs) (if t then found char (char_size (b ∷ bs)) else (if begins_name (get_or bs 0 0) then found ty_var (run_end goes_on 1 (b ∷ bs)) else stray_found (b ∷ bs)))) [
      | true ↦ λ e. no_name b bs is (ltb-true 0 (char_size (b ∷ bs)) e)
      | false ↦ λ e.
          let none : (spelled behind : List ℕ) → b ∷ bs ≡ spelled ++ behind → IsChar spelled → ⊥ = λ spelled behind same i.
          both_ways (nat_lt 0 (char_size (b ∷ bs))) e (lt-ltb 0 (char_size (b ∷ bs)) (omega (arith, char_there (b ∷ bs) spelled behind same i, char_some spelled i))) in
          elim (begins_name (get_or bs 0 0)) as (λ t. begins_name (get_or bs 0 0) ≡ t → FoundIs tick_class (b ∷ bs) (if t then found ty_var (run_end goes_on 1 (b ∷ bs)) else stray_found (b ∷ bs))) [
            | true ↦ λ e2. name_there b bs is e2 none
            | false ↦ λ e2. is_stray (λ front behind same of. elim of [
              | inl i ↦ none front behind same i
              | inr v ↦ both_ways (begins_name (get_or bs 0 0)) e2 (ty_var_first (b ∷ bs) front behind same v.0 v.1 v.2)
            ])
          ] refl
    ] refl
