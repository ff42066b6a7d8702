-- Where the reach of a token lies: near behind the blanks behind it, or near behind a token and blanks.
use Rattle.std.proofs.Common.{◌≡◌, ◌+◌, ◌-◌, ◌≤◌, ◌<◌, ◌++◌, ◌∷◌, [], ℕ, List, Bool, true, false, take, drop, length, get_or, sym, subst, ap, ◌∙◌, arith, refl, inl, inr, Option, Some, None, length-take}
use Rattle.std.specs.Prelude.{if◌then◌else◌, ◌==◌, ◌&&◌, ◌||◌, nat_lt, codes}
use Rattle.std.proofs.lemmas.List.{take-append-drop, drop-drop, get_or-take, get_or-drop}
use Rattle.std.proofs.lemmas.Bool.{ltb-false, cases_lt}
use Rattle.std.proofs.lemmas.Bool.Decides.{nat_tests}
use Rattle.token_model.specs.Kinds.{Kind, module_type, char, ty_var, outside, left_brace, nil, unit, left_paren, op_name, colon_equal, left_bracket, semi, semi_semi, dot, colon, colon_colon, qualifier, upper}
use Rattle.token_model.specs.Bytes.{is_blank, is_digit, is_lower, is_upper, is_sign, goes_on, begins_name, begins_operator, is_hexadecimal, is_octal, continues}
use Rattle.token_model.specs.Spellings.{is_plain, is_escaped, Spells, a_word, an_operator, a_mark, colon_equal_mark}
use Rattle.token_model.specs.Words.{word_kind, sign_kind}
use Rattle.ml_lexer.specs.Scans.{Found, found, run_length, run_end, char_size, word_found, upper_found, tick_found, literal_found, with_behind, numeral_found, string_end, string_found, quote_found, opens_quoted, quoted_end, brace_found, bracket_found, operator_end, is_operator_kind, op_name_found, paren_found, is_closing_sign, is_module_word, is_e, is_plus_or_minus, sign_found, stray_found, mark_or_stray, found_from}
use Rattle.ml_lexer.specs.Reaches.{type_reach, word_reach, upper_reach, hexadecimal_reach, octal_reach, decimal_reach, escape_reach, char_reach, lone_tick_reach, tick_reach, behind_reach, numeral_reach, string_reach, quote_reach, brace_reach, bracket_reach, operator_reach, paren_reach, sign_reach, mark_reach, reach_from}
use Rattle.ml_lexer.proofs.Runs.{run_le, run_later, run_passes, front_in_run}
use Rattle.ml_lexer.proofs.Inside.{two_known}
use Rattle.ml_lexer.proofs.Spelled.{all_weaker, run_front}
use Rattle.ml_lexer.proofs.Standing.{f2, f3, f4, f5, f6, f7, f8, f9}
use Rattle.ml_lexer.proofs.Steadies.{front_found, front_reach, r2, r3, r4, r5, r6, r7, r8, r9}
use Rattle.ml_lexer.proofs.SteadyTicks.{first_passes, first_fails}
use Rattle.ml_lexer.proofs.SpelledMarks.{size_of}
use Rattle.ml_lexer.proofs.SteadyBrackets.{signs, ats, arrays}
use Rattle.ml_lexer.proofs.SteadyMarks.{by_mark}
use Rattle.ml_lexer.proofs.SteadyNumerals.{there}
use Rattle.ml_lexer.proofs.SteadyWords.{name_end, gap_end, both_end, is_both, type_there, one_reach}

-- behind a token of n bytes that these bytes begin with
pub data Near (l : List ℕ) (n r : ℕ) : Type 0 where
  behind_blanks : r ≤ run_end is_blank n l + 8 → Near l n r
  behind_token : (k : Kind) (w name rest : List ℕ) → drop (run_end is_blank n l) l ≡ w ++ rest → Spells k w name rest → is_blank (get_or w 0 0) ≡ false → (get_or w 0 0 == 40) ≡ false → r ≤ run_end is_blank (run_end is_blank n l + length w) l + 8 → Near l n r

-- a reach near behind the token
close : (l : List ℕ) (n r : ℕ) → r ≤ n + 8 → Near l n r
close l n r h = behind_blanks (omega (arith, h))

-- one of two tokens with its reach
near_if : (l : List ℕ) (t : Bool) (f g : Found) (r s : ℕ) → (t ≡ true → Near l f.size r) → (t ≡ false → Near l g.size s) → Near l (size_of (if t then f else g)) (if t then r else s)
near_if l true f g r s first second = first refl
near_if l false f g r s first second = second refl

-- one of two tokens with one reach
size_if : (l : List ℕ) (t : Bool) (f g : Found) (r : ℕ) → (t ≡ true → Near l f.size r) → (t ≡ false → Near l g.size r) → Near l (size_of (if t then f else g)) r
size_if l true f g r first second = first refl
size_if l false f g r first second = second refl

-- an upper bound of both is one of the choice
most_if : (t : Bool) (m n k : ℕ) → m ≤ k → n ≤ k → (if t then m else n) ≤ k
most_if true m n k p q = p
most_if false m n k p q = q

-- a lower bound of both sizes is one of the choice
size_least : (t : Bool) (f g : Found) (n : ℕ) → n ≤ f.size → n ≤ g.size → n ≤ size_of (if t then f else g)
size_least true f g n p q = p
size_least false f g n p q = q

-- `type` has four letters
type_most : (p : ℕ) (l : List ℕ) → type_reach p l ≤ p + 5
type_most p l = most_if (get_or l p 0 == 116) (if get_or l (p + 1) 0 == 121 then (if get_or l (p + 2) 0 == 112 then (if get_or l (p + 3) 0 == 101 then p + 5 else p + 4) else p + 3) else p + 2) (p + 1) (p + 5)
    (most_if (get_or l (p + 1) 0 == 121) (if get_or l (p + 2) 0 == 112 then (if get_or l (p + 3) 0 == 101 then p + 5 else p + 4) else p + 3) (p + 2) (p + 5)
    (most_if (get_or l (p + 2) 0 == 112) (if get_or l (p + 3) 0 == 101 then p + 5 else p + 4) (p + 3) (p + 5) (most_if (get_or l (p + 3) 0 == 101) (p + 5) (p + 4) (p + 5) (omega arith) (omega arith)) (omega arith)) (omega arith)) (omega arith)

-- a word
word_near : (l : List ℕ) → Near l (word_found l).size (word_reach l)
unfolding word_found word_reach
word_near l = near_if l (is_both l) (found module_type (both_end l)) (found (word_kind (take (name_end l) l)) (name_end l)) (both_end l + 1) (one_reach l)
    (λ _. close l (both_end l) (both_end l + 1) (omega arith))
    (λ _. behind_blanks (most_if (is_module_word (name_end l) l) (type_there l) (name_end l + 1) (gap_end l + 8) (omega (arith, type_most (gap_end l) l)) (omega arith)))

-- a name that begins with an upper-case letter
upper_near : (l : List ℕ) → Near l (upper_found l).size (upper_reach l)
unfolding upper_found upper_reach
upper_near l = size_if l (get_or l (name_end l) 0 == 46) (record { kind = qualifier; size = name_end l + 1; name_start = 0; name_size = name_end l }) (found upper (name_end l)) (name_end l + 1) (λ _. close l (name_end l + 1) (name_end l + 1) (omega arith)) (λ _. close l (name_end l) (name_end l + 1) (omega arith))

-- a literal with what stands behind it
numeral_near : (l : List ℕ) → Near l (numeral_found l).size (numeral_reach l)
unfolding numeral_found numeral_reach
numeral_near l = with_near (literal_found l)
  where
    with_near : (f : Found) → Near l (with_behind f l).size (behind_reach f l)
    with_near f =
        let last = run_end goes_on f.size l in
        let most : behind_reach f l ≤ last + 3 = most_if (last == f.size + 1 && is_e (get_or l f.size 0) && is_plus_or_minus (get_or l (f.size + 1) 0)) (f.size + 3) (last + 1) (last + 3) (omega arith) (omega arith) in
        size_if l (nat_lt f.size last) (found outside last) f (behind_reach f l) (λ _. close l last (behind_reach f l) (omega (arith, most))) (λ is. close l f.size (behind_reach f l) (omega (arith, most, ltb-false f.size last is)))

-- a character literal has at most 7 bytes
char_most : (l : List ℕ) → char_reach l ≤ 7
char_most l =
    let three : hexadecimal_reach l ≤ 7 = most_if (is_hexadecimal (get_or l 3 0)) (if is_hexadecimal (get_or l 4 0) then 6 else 5) 4 7 (most_if (is_hexadecimal (get_or l 4 0)) 6 5 7 (omega arith) (omega arith)) (omega arith) in
    let last : (if is_octal (get_or l 5 0) then 7 else 6) ≤ 7 = most_if (is_octal (get_or l 5 0)) 7 6 7 (omega arith) (omega arith) in
    let four : octal_reach l ≤ 7 = most_if (is_octal (get_or l 3 0) && nat_lt (get_or l 3 0) 52) (if is_octal (get_or l 4 0) then (if is_octal (get_or l 5 0) then 7 else 6) else 5) 4 7 (most_if (is_octal (get_or l 4 0)) (if is_octal (get_or l 5 0) then 7 else 6) 5 7 last (omega arith)) (omega arith) in
    let five : decimal_reach l ≤ 7 = most_if (is_digit (get_or l 3 0)) (if is_digit (get_or l 4 0) then 6 else 5) 4 7 (most_if (is_digit (get_or l 4 0)) 6 5 7 (omega arith) (omega arith)) (omega arith) in
    let digit : (if is_digit (get_or l 2 0) then decimal_reach l else 3) ≤ 7 = most_if (is_digit (get_or l 2 0)) (decimal_reach l) 3 7 five (omega arith) in
    let escaped : (if is_escaped (get_or l 2 0) then 4 else (if is_digit (get_or l 2 0) then decimal_reach l else 3)) ≤ 7 = most_if (is_escaped (get_or l 2 0)) 4 (if is_digit (get_or l 2 0) then decimal_reach l else 3) 7 (omega arith) digit in
    let octal : (if get_or l 2 0 == 111 then octal_reach l else (if is_escaped (get_or l 2 0) then 4 else (if is_digit (get_or l 2 0) then decimal_reach l else 3))) ≤ 7 = most_if (get_or l 2 0 == 111) (octal_reach l) (if is_escaped (get_or l 2 0) then 4 else (if is_digit (get_or l 2 0) then decimal_reach l else 3)) 7 four escaped in
    most_if (get_or l 1 0 == 92) (escape_reach l) (if is_plain (get_or l 1 0) then 3 else 2) 7
    (most_if (get_or l 2 0 == 120) (hexadecimal_reach l) (if get_or l 2 0 == 111 then octal_reach l else (if is_escaped (get_or l 2 0) then 4 else (if is_digit (get_or l 2 0) then decimal_reach l else 3))) 7 three octal)
    (most_if (is_plain (get_or l 1 0)) 3 2 7 (omega arith) (omega arith))

-- one character that begins no token
stray_near : (l : List ℕ) → Near l (stray_found l).size (run_end continues 1 l + 1)
stray_near l = close l (run_end continues 1 l) (run_end continues 1 l + 1) (omega arith)

-- what begins with a quote
tick_near : (l : List ℕ) → Near l (tick_found l).size (tick_reach l)
unfolding tick_found tick_reach
tick_near l = near_if l (nat_lt 0 (char_size l)) (found char (char_size l)) (if begins_name (get_or l 1 0) then found ty_var (run_end goes_on 1 l) else stray_found l) (char_size l) (if begins_name (get_or l 1 0) then run_end goes_on 1 l + 1 else lone_tick_reach l)
    (λ _. close l (char_size l) (char_size l) (omega arith))
    (λ _. near_if l (begins_name (get_or l 1 0)) (found ty_var (run_end goes_on 1 l)) (stray_found l) (run_end goes_on 1 l + 1) (lone_tick_reach l)
    (λ _. close l (run_end goes_on 1 l) (run_end goes_on 1 l + 1) (omega arith))
    (λ _. close l (run_end continues 1 l) (lone_tick_reach l) (omega (arith, char_most l))))

-- a string, or what has no end
string_near : (o : Option ℕ) (l : List ℕ) → Near l (string_found o l).size (string_reach o l)
string_near (Some n) l = close l n n (omega arith)
string_near None l = close l (length l) (length l + 1) (omega arith)

-- what begins with the quote of a string
quote_near : (l : List ℕ) → Near l (quote_found l).size (quote_reach l)
unfolding quote_found quote_reach
quote_near l = string_near (string_end false 1 (drop 1 l)) l

-- a lower-case letter is neither a blank nor `(`, and goes on a name
lower_byte : (b : ℕ) → is_lower b ≡ true → (is_blank b ≡ false) × ((b == 40) ≡ false) × (goes_on b ≡ true)
lower_byte b is = (grind (arith, nat_tests), grind (arith, nat_tests), grind (arith, nat_tests))

-- a run that has a byte begins with one
run_begins : (test : ℕ → Bool) (l : List ℕ) → 0 < run_length test l → test (get_or l 0 0) ≡ true
run_begins test [] some = absurd (omega (arith, some))
run_begins test (b ∷ l) some = elim (test b) as (λ t. 0 < (if t then run_length test l + 1 else 0) → t ≡ true) [ true ↦ λ _. refl | false ↦ λ none. absurd (omega (arith, none)) ] some

-- from a later place blanks end no earlier
pub blanks_later : (j k : ℕ) (l : List ℕ) → j ≤ k → run_end is_blank j l ≤ run_end is_blank k l
blanks_later j k l order =
    let sum : j + (k - j) ≡ k = omega (arith, order) in
    let later : run_length is_blank (drop j l) ≤ (k - j) + run_length is_blank (drop k l) = subst (λ (x : List ℕ). run_length is_blank (drop j l) ≤ (k - j) + run_length is_blank x) (drop-drop (k - j) j l ∙ ap (λ n. drop n l) sum) (run_later is_blank (k - j) (drop j l)) in
    omega (arith, later, order)

-- letters go on a name
lower_in_name : (l : List ℕ) → run_length is_lower l ≤ run_length goes_on l
lower_in_name l =
    let n = run_length is_lower l in
    let all = all_weaker is_lower goes_on (take n l) (λ b is. (lower_byte b is).2) (run_passes is_lower l) in
    omega (arith, subst (λ (x : List ℕ). length (take n l) ≤ run_length goes_on x) (take-append-drop n l) (front_in_run goes_on (take n l) (drop n l) all), length-take n l, run_le is_lower l)

-- a name stands behind the blanks, and ends at a place or behind it
name_between : (l : List ℕ) (n p end r : ℕ) → run_end is_blank n l ≡ p → is_lower (get_or (drop p l) 0 0) ≡ true → end ≤ p + run_length goes_on (drop p l) → r ≤ run_end is_blank end l + 8 → Near l n r
name_between l n p end r at is within most =
    let tail = drop p l in
    let g = run_length goes_on tail in
    let byte = lower_byte (get_or tail 0 0) is in
    let some : 0 < g = first_passes goes_on tail refl byte.2 in
    let w = take g tail in
    let first : get_or w 0 0 ≡ get_or tail 0 0 = get_or-take g tail 0 0 some in
    let whole : drop (run_end is_blank n l) l ≡ w ++ drop g tail = ap (λ k. drop k l) at ∙ sym (take-append-drop g tail) in
    let size : length w ≡ g = omega (arith, length-take g tail, run_le goes_on tail) in
    let long : run_end is_blank end l ≤ run_end is_blank (run_end is_blank n l + length w) l = blanks_later end (run_end is_blank n l + length w) l (omega (arith, size, at, within)) in
    behind_token (word_kind w) w w (drop g tail) whole (a_word (run_front is_lower goes_on tail (some_bytes tail some) is byte.2)) (ap is_blank first ∙ byte.0) (ap (λ b. b == 40) first ∙ byte.1) (omega (arith, most, long))
  where
    some_bytes : (x : List ℕ) → 0 < run_length goes_on x → 0 < length x
    some_bytes x h = omega (arith, h, run_le goes_on x)

-- a brace before letters or none
id_near : (l : List ℕ) → Near l 1 (run_end is_lower 1 l + 1)
id_near l = elim (cases_lt 0 (run_length is_lower (drop 1 l))) [
  | inl some ↦
      let is = run_begins is_lower (drop 1 l) some in
      let none : run_end is_blank 1 l ≡ 1 = omega (arith, first_fails is_blank (drop 1 l) (lower_byte (get_or (drop 1 l) 0 0) is).0) in
      name_between l 1 1 (run_end is_lower 1 l) (run_end is_lower 1 l + 1) none is (omega (arith, lower_in_name (drop 1 l))) (omega arith)
  | inr none ↦ close l 1 (run_end is_lower 1 l + 1) (omega (arith, none))
]

-- what begins with a brace
brace_near : (l : List ℕ) → Near l (brace_found l).size (brace_reach l)
unfolding brace_found brace_reach
brace_near l = near_if l (opens_quoted l) (string_found (quoted_end l) l) (if get_or l 1 0 == 60 then found outside 2 else found left_brace 1) (string_reach (quoted_end l) l) (if get_or l 1 0 == 60 then 2 else run_end is_lower 1 l + 1)
    (λ _. string_near (quoted_end l) l)
    (λ _. near_if l (get_or l 1 0 == 60) (found outside 2) (found left_brace 1) 2 (run_end is_lower 1 l + 1) (λ _. close l 2 2 (omega arith)) (λ _. id_near l))

-- what a bracket finds has a byte
signs_some : (l : List ℕ) → 1 ≤ (signs l).size
signs_some l = size_least (get_or l 1 0 == 37 && get_or l 2 0 == 37) (found outside 3) (if get_or l 1 0 == 64 || get_or l 1 0 == 37 then found outside 2 else found left_bracket 1) 1 (omega arith) (size_least (get_or l 1 0 == 64 || get_or l 1 0 == 37) (found outside 2) (found left_bracket 1) 1 (omega arith) (omega arith))

-- also from the first test on
arrays_some : (l : List ℕ) → 1 ≤ (arrays l).size
arrays_some l = size_least (get_or l 1 0 == 124 || get_or l 1 0 == 60 || get_or l 1 0 == 62) (found outside 2) (ats l) 1 (omega arith) (size_least (get_or l 1 0 == 64 && get_or l 2 0 == 64 && get_or l 3 0 == 64) (found outside 4) (if get_or l 1 0 == 64 && get_or l 2 0 == 64 then found outside 3 else signs l) 1 (omega arith) (size_least (get_or l 1 0 == 64 && get_or l 2 0 == 64) (found outside 3) (signs l) 1 (omega arith) (signs_some l)))

-- what begins with a bracket
bracket_near : (l : List ℕ) → Near l (bracket_found l).size (bracket_reach l)
unfolding bracket_found bracket_reach
bracket_near l =
    let end = run_end is_blank 1 l in
    let some : 1 ≤ size_of (if get_or l end 0 == 93 then found nil (end + 1) else arrays l) = size_least (get_or l end 0 == 93) (found nil (end + 1)) (arrays l) 1 (omega arith) (arrays_some l) in
    let last : (if get_or l 1 0 == 64 || get_or l 1 0 == 37 then 3 else end + 1) ≤ end + 8 = most_if (get_or l 1 0 == 64 || get_or l 1 0 == 37) 3 (end + 1) (end + 8) (omega arith) (omega arith) in
    let at : (if get_or l 1 0 == 64 && get_or l 2 0 == 64 then 4 else (if get_or l 1 0 == 64 || get_or l 1 0 == 37 then 3 else end + 1)) ≤ end + 8 = most_if (get_or l 1 0 == 64 && get_or l 2 0 == 64) 4 (if get_or l 1 0 == 64 || get_or l 1 0 == 37 then 3 else end + 1) (end + 8) (omega arith) last in
    let array : (if get_or l 1 0 == 124 || get_or l 1 0 == 60 || get_or l 1 0 == 62 then 2 else (if get_or l 1 0 == 64 && get_or l 2 0 == 64 then 4 else (if get_or l 1 0 == 64 || get_or l 1 0 == 37 then 3 else end + 1))) ≤ end + 8 = most_if (get_or l 1 0 == 124 || get_or l 1 0 == 60 || get_or l 1 0 == 62) 2 (if get_or l 1 0 == 64 && get_or l 2 0 == 64 then 4 else (if get_or l 1 0 == 64 || get_or l 1 0 == 37 then 3 else end + 1)) (end + 8) (omega arith) at in
    let most = most_if (get_or l end 0 == 93) (end + 1) (if get_or l 1 0 == 124 || get_or l 1 0 == 60 || get_or l 1 0 == 62 then 2 else (if get_or l 1 0 == 64 && get_or l 2 0 == 64 then 4 else (if get_or l 1 0 == 64 || get_or l 1 0 == 37 then 3 else end + 1))) (end + 8) (omega arith) array in
    behind_blanks (omega (arith, most, blanks_later 1 (size_of (if get_or l end 0 == 93 then found nil (end + 1) else arrays l)) l some))

-- what is found with an operator, and how far that is looked at
abbrev WithOperator : List ℕ → ℕ → Option (Kind × ℕ) → Type 0
WithOperator l p o = Near l (op_name_found p o l).size (operator_reach p o l)

-- a parenthesis alone before an operator that a spelling gives
with_spelled : (l : List ℕ) (p : ℕ) (op : Kind × ℕ) → run_end is_blank 1 l ≡ p → (k : Kind) (w name rest : List ℕ) → drop p l ≡ w ++ rest → Spells k w name rest → is_blank (get_or w 0 0) ≡ false → (get_or w 0 0 == 40) ≡ false → op.1 ≡ p + length w → WithOperator l p (Some op)
with_spelled l p op at k w name rest whole spells no_blank no_paren end =
    let last = run_end is_blank op.1 l in
    let most : operator_reach p (Some op) l ≤ last + 1 = most_if (is_operator_kind op.0) (last + 1) (op.1 + 1) (last + 1) (omega arith) (omega arith) in
    let place : run_end is_blank 1 l + length w ≡ op.1 = omega (arith, at, end) in
    size_if l (is_operator_kind op.0 && get_or l last 0 == 41) (record { kind = op_name; size = last + 1; name_start = p; name_size = op.1 - p }) (found left_paren 1) (operator_reach p (Some op) l)
    (λ _. close l (last + 1) (operator_reach p (Some op) l) (omega (arith, most)))
    (λ _. behind_token k w name rest (ap (λ j. drop j l) at ∙ whole) spells no_blank no_paren (subst (λ j. operator_reach p (Some op) l ≤ run_end is_blank j l + 8) (sym place) (omega (arith, most))))

-- the first sign of an operator is neither a blank nor `(`, and goes on an operator
operator_byte : (b : ℕ) → begins_operator b ≡ true → (is_blank b ≡ false) × ((b == 40) ≡ false) × (is_sign b ≡ true)
operator_byte b is = (grind (arith, nat_tests), grind (arith, nat_tests), grind (arith, nat_tests))

-- a list with a run has a byte
some_run : (test : ℕ → Bool) (l : List ℕ) → 0 < run_length test l → 0 < length l
some_run test l h = omega (arith, h, run_le test l)

-- a parenthesis before an operator or none
operator_near : (l : List ℕ) (p : ℕ) → run_end is_blank 1 l ≡ p → WithOperator l p (operator_end p l)
operator_near l p at =
    let tail = drop p l in
    let here : get_or tail 0 0 ≡ get_or l p 0 = there p l in
    let s = run_length is_sign tail in
    let g = run_length goes_on tail in
    elim (begins_operator (get_or l p 0)) as (λ t. begins_operator (get_or l p 0) ≡ t → WithOperator l p (if t then Some (sign_kind (take (run_end is_sign p l - p) (drop p l)), run_end is_sign p l) else (if is_lower (get_or l p 0) then Some (word_kind (take (run_end goes_on p l - p) (drop p l)), run_end goes_on p l) else (if get_or l p 0 == 58 && get_or l (p + 1) 0 == 61 then Some (colon_equal, p + 2) else None)))) [
      | true ↦ λ is.
          let begins : begins_operator (get_or tail 0 0) ≡ true = ap begins_operator here ∙ is in
          let byte = operator_byte (get_or tail 0 0) begins in
          let some : 0 < s = first_passes is_sign tail refl byte.2 in
          let w = take s tail in
          let first : get_or w 0 0 ≡ get_or tail 0 0 = get_or-take s tail 0 0 some in
          with_spelled l p (sign_kind (take (run_end is_sign p l - p) tail), run_end is_sign p l) at (sign_kind w) w w (drop s tail) (sym (take-append-drop s tail)) (an_operator (run_front begins_operator is_sign tail (some_run is_sign tail some) begins byte.2)) (ap is_blank first ∙ byte.0) (ap (λ b. b == 40) first ∙ byte.1) (omega (arith, length-take s tail, run_le is_sign tail))
      | false ↦ λ _. elim (is_lower (get_or l p 0)) as (λ t. is_lower (get_or l p 0) ≡ t → WithOperator l p (if t then Some (word_kind (take (run_end goes_on p l - p) (drop p l)), run_end goes_on p l) else (if get_or l p 0 == 58 && get_or l (p + 1) 0 == 61 then Some (colon_equal, p + 2) else None))) [
        | true ↦ λ is.
            let begins : is_lower (get_or tail 0 0) ≡ true = ap is_lower here ∙ is in
            let byte = lower_byte (get_or tail 0 0) begins in
            let some : 0 < g = first_passes goes_on tail refl byte.2 in
            let w = take g tail in
            let first : get_or w 0 0 ≡ get_or tail 0 0 = get_or-take g tail 0 0 some in
            with_spelled l p (word_kind (take (run_end goes_on p l - p) tail), run_end goes_on p l) at (word_kind w) w w (drop g tail) (sym (take-append-drop g tail)) (a_word (run_front is_lower goes_on tail (some_run goes_on tail some) begins byte.2)) (ap is_blank first ∙ byte.0) (ap (λ b. b == 40) first ∙ byte.1) (omega (arith, length-take g tail, run_le goes_on tail))
        | false ↦ λ _. elim (get_or l p 0 == 58 && get_or l (p + 1) 0 == 61) as (λ t. (get_or l p 0 == 58 && get_or l (p + 1) 0 == 61) ≡ t → WithOperator l p (if t then Some (colon_equal, p + 2) else None)) [
          | true ↦ λ is.
              let second : get_or tail 1 0 ≡ get_or l (p + 1) 0 = get_or-drop p l 1 0 in
              let two = two_known 58 61 tail (ap (λ b. b == 58 && get_or tail 1 0 == 61) here ∙ ap (λ b. get_or l p 0 == 58 && b == 61) second ∙ is) (omega arith) (omega arith) in
              with_spelled l p (colon_equal, p + 2) at colon_equal (codes ":=") (codes ":=") (drop 2 tail) two (a_mark colon_equal_mark) refl refl (omega arith)
          | false ↦ λ is. behind_blanks (omega (arith, at, most_if (get_or l p 0 == 58) (p + 2) (p + 1) (p + 2) (omega arith) (omega arith)))
        ] refl
      ] refl
    ] refl

-- what begins with a parenthesis
paren_near : (l : List ℕ) → Near l (paren_found l).size (paren_reach l)
unfolding paren_found paren_reach
paren_near l =
    let p = run_end is_blank 1 l in
    near_if l (get_or l p 0 == 41) (found unit (p + 1)) (op_name_found p (operator_end p l) l) (p + 1) (operator_reach p (operator_end p l) l) (λ _. close l (p + 1) (p + 1) (omega arith)) (λ _. operator_near l p refl)

-- what begins with a sign
sign_near : (l : List ℕ) → Near l (sign_found l).size (sign_reach l)
unfolding sign_found sign_reach
sign_near l =
    let n = run_end is_sign 0 l in
    near_if l (is_closing_sign l) (found outside 2) (found (sign_kind (take n l)) n) 2 (n + 1) (λ _. close l 2 2 (omega arith)) (λ _. close l n (n + 1) (omega arith))

-- what begins with another byte
abbrev MarkNear : ℕ → List ℕ → Type 0
MarkNear b l = Near l (mark_or_stray b l).size (mark_reach b l)

-- marks of one byte
known_one : (l : List ℕ) → MarkNear 41 l × MarkNear 93 l × MarkNear 125 l × MarkNear 44 l
unfolding mark_or_stray mark_reach
known_one l = (close l 1 1 (omega arith), close l 1 1 (omega arith), close l 1 1 (omega arith), close l 1 1 (omega arith))

-- a mark of one byte, or of two
one_or_two : (l : List ℕ) (t : Bool) (f g : Found) → 0 < f.size → 0 < g.size → Near l (size_of (if t then f else g)) 2
one_or_two l t f g p q = size_if l t f g 2 (λ _. close l f.size 2 (omega arith)) (λ _. close l g.size 2 (omega arith))

-- marks of one byte or two, and `#`
known_two : (l : List ℕ) → MarkNear 59 l × MarkNear 46 l × MarkNear 58 l × MarkNear 35 l
unfolding mark_or_stray mark_reach
known_two l =
    let c = get_or l 1 0 in (
      one_or_two l (c == 59) (found semi_semi 2) (found semi 1) (omega arith) (omega arith),
      one_or_two l (c == 46) (found outside 2) (found dot 1) (omega arith) (omega arith),
      size_if l (c == 58) (found colon_colon 2) (if c == 61 then found colon_equal 2 else (if c == 62 then found outside 2 else found colon 1)) 2 (λ _. close l 2 2 (omega arith)) (λ _. size_if l (c == 61) (found colon_equal 2) (if c == 62 then found outside 2 else found colon 1) 2 (λ _. close l 2 2 (omega arith)) (λ _. one_or_two l (c == 62) (found outside 2) (found colon 1) (omega arith) (omega arith))),
      close l (run_end is_sign 1 l) (run_end is_sign 1 l + 1) (omega arith),
    )

-- one character that begins no mark
none_of : (b : ℕ) (l : List ℕ) → (b == 41) ≡ false → (b == 93) ≡ false → (b == 125) ≡ false → (b == 44) ≡ false → (b == 59) ≡ false → (b == 46) ≡ false → (b == 58) ≡ false → (b == 35) ≡ false → MarkNear b l
unfolding mark_or_stray mark_reach
none_of b l e1 e2 e3 e4 e5 e6 e7 e8 = simp (e1, e2, e3, e4, e5, e6, e7, e8) (stray_near l)

-- what begins with any of these bytes
mark_near : (b : ℕ) (l : List ℕ) → MarkNear b l
mark_near b l = by_mark (λ x. MarkNear x l) b (known_one l) (known_two l) (none_of b l)

-- the reach of what is found at the front
pub front_near : (l : List ℕ) → Near l (front_found l).size (front_reach l)
unfolding found_from reach_from
front_near l =
    let b = get_or l 0 0 in
    near_if l (is_lower b) (word_found l) (f2 b l) (word_reach l) (r2 b l) (λ _. word_near l)
    (λ _. near_if l (is_upper b) (upper_found l) (f3 b l) (upper_reach l) (r3 b l) (λ _. upper_near l)
    (λ _. near_if l (is_digit b) (numeral_found l) (f4 b l) (numeral_reach l) (r4 b l) (λ _. numeral_near l)
    (λ _. near_if l (b == 39) (tick_found l) (f5 b l) (tick_reach l) (r5 b l) (λ _. tick_near l)
    (λ _. near_if l (b == 34) (quote_found l) (f6 b l) (quote_reach l) (r6 b l) (λ _. quote_near l)
    (λ _. near_if l (b == 40) (paren_found l) (f7 b l) (paren_reach l) (r7 b l) (λ _. paren_near l)
    (λ _. near_if l (b == 91) (bracket_found l) (f8 b l) (bracket_reach l) (r8 b l) (λ _. bracket_near l)
    (λ _. near_if l (b == 123) (brace_found l) (f9 b l) (brace_reach l) (r9 b l) (λ _. brace_near l)
    (λ _. near_if l (begins_operator b) (sign_found l) (mark_or_stray b l) (sign_reach l) (mark_reach b l) (λ _. sign_near l)
    (λ _. mark_near b l)))))))))
