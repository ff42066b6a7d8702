-- What begins with `[`.
use Rattle.std.proofs.Common.{◌≡◌, ◌+◌, ◌≤◌, ◌<◌, ◌++◌, ◌∷◌, [], ℕ, suc, List, Bool, true, false, take, drop, length, get_or, sym, subst, arith, refl, ap, ◌∙◌, append_assoc, length-append, length-take, inl, inr}
use Rattle.std.specs.Prelude.{if◌then◌else◌, ◌&&◌, ◌||◌, ◌==◌, codes}
use Rattle.std.proofs.Math.Seq.{get_or-append_seam}
use Rattle.std.proofs.lemmas.Bool.{and_parts, or_cases, eqb-true, eq-eqb}
use Rattle.token_model.specs.Kinds.{outside, nil, left_bracket}
use Rattle.token_model.specs.Bytes.{is_blank}
use Rattle.token_model.specs.Spellings.{AreBlanks, a_mark, a_nil, left_bracket_mark, left_array_sign, left_less_sign, left_greater_sign, attribute_sign, item_attribute_sign, floating_attribute_sign, extension_sign, item_extension_sign}
use Rattle.ml_lexer.specs.Scans.{Found, found, run_length, run_end, bracket_found}
use Rattle.ml_lexer.proofs.Runs.{run_exact, run_passes, run_le}
use Rattle.ml_lexer.proofs.Quoted.{split_at}
use Rattle.ml_lexer.proofs.Classes.{BracketMark, one_bracket, array, less, greater, at_one, at_two, at_three, percent_one, percent_two, bracket_class}
use Rattle.ml_lexer.proofs.Spelled.{NoLonger}
use Rattle.ml_lexer.proofs.SpelledMarks.{FoundIs, is_spelled, IsThere, there, one, two, size_of}

-- a byte behind blanks, as the scan finds it
pub byte_behind : (b : ℕ) (cs : List ℕ) → get_or (b ∷ cs) (run_end is_blank 1 (b ∷ cs)) 0 ≡ get_or cs (run_length is_blank cs) 0
byte_behind b cs = let place : 1 + run_length is_blank cs ≡ suc (run_length is_blank cs) = omega arith in ap (λ k. get_or (b ∷ cs) k 0) place

-- blanks and the byte behind them
pub blanks_cut : (cs : List ℕ) (b : ℕ) → get_or cs (run_length is_blank cs) 0 ≡ b → 0 < b → cs ≡ (take (run_length is_blank cs) cs ++ b ∷ []) ++ drop (suc (run_length is_blank cs)) cs
blanks_cut cs b is some = split_at cs (run_length is_blank cs) b is some ∙ sym (append_assoc (take (run_length is_blank cs) cs) (b ∷ []) (drop (suc (run_length is_blank cs)) cs))

nil_there : (b : ℕ) (cs : List ℕ) → b ≡ 91 → (get_or (b ∷ cs) (run_end is_blank 1 (b ∷ cs)) 0 == 93) ≡ true → IsThere (b ∷ cs) (found nil (run_end is_blank 1 (b ∷ cs) + 1))
nil_there b cs is e =
    let n = run_length is_blank cs in
    let last : get_or cs n 0 ≡ 93 = sym (byte_behind b cs) ∙ eqb-true (get_or (b ∷ cs) (run_end is_blank 1 (b ∷ cs)) 0) 93 e in
    let a = take n cs in
    there (b ∷ cs) (91 ∷ a ++ codes "]") (drop (suc n) cs) nil (1 + n + 1) (ap (λ x. x ∷ cs) is ∙ ap (λ (l : List ℕ). 91 ∷ l) (blanks_cut cs 93 last (omega arith))) (omega (arith, length-append a (codes "]"), run_le is_blank cs, length-take n cs)) (a_nil a (run_passes is_blank cs))

-- the size of a nil at the front
nil_size : (a behind : List ℕ) → AreBlanks a → (run_end is_blank 1 ((91 ∷ a ++ codes "]") ++ behind) ≡ 1 + length a) × ((get_or ((91 ∷ a ++ codes "]") ++ behind) (run_end is_blank 1 ((91 ∷ a ++ codes "]") ++ behind)) 0 == 93) ≡ true)
nil_size a behind blanks =
    let order : (a ++ codes "]") ++ behind ≡ a ++ 93 ∷ behind = append_assoc a (codes "]") behind in
    let exact : run_length is_blank ((a ++ codes "]") ++ behind) ≡ length a = ap (run_length is_blank) order ∙ run_exact is_blank a (93 ∷ behind) blanks refl in (
      omega (arith, exact),
      eq-eqb (get_or ((91 ∷ a ++ codes "]") ++ behind) (run_end is_blank 1 ((91 ∷ a ++ codes "]") ++ behind)) 0) 93 (byte_behind 91 ((a ++ codes "]") ++ behind) ∙ ap (λ k. get_or ((a ++ codes "]") ++ behind) k 0) exact ∙ ap (λ (l : List ℕ). get_or l (length a) 0) order ∙ get_or-append_seam a 93 behind 0),
    )

-- the marks that a bracket begins, from a test on
abbrev percents : List ℕ → Found
percents bs = if get_or bs 1 0 == 37 && get_or bs 2 0 == 37 then found outside 3 else (if get_or bs 1 0 == 64 || get_or bs 1 0 == 37 then found outside 2 else found left_bracket 1)

abbrev ats : List ℕ → Found
ats bs = if get_or bs 1 0 == 64 && get_or bs 2 0 == 64 && get_or bs 3 0 == 64 then found outside 4 else (if get_or bs 1 0 == 64 && get_or bs 2 0 == 64 then found outside 3 else percents bs)

abbrev arrays : List ℕ → Found
arrays bs = if get_or bs 1 0 == 124 || get_or bs 1 0 == 60 || get_or bs 1 0 == 62 then found outside 2 else ats bs

percents_there : (bs : List ℕ) → get_or bs 0 0 ≡ 91 → IsThere bs (percents bs)
percents_there bs is =
    let first = eq-eqb (get_or bs 0 0) 91 is in
    elim (get_or bs 1 0 == 37 && get_or bs 2 0 == 37) as (λ t. (get_or bs 1 0 == 37 && get_or bs 2 0 == 37) ≡ t → IsThere bs (if t then found outside 3 else (if get_or bs 1 0 == 64 || get_or bs 1 0 == 37 then found outside 2 else found left_bracket 1))) [
      | true ↦ λ e. let parts = and_parts (get_or bs 1 0 == 37) (get_or bs 2 0 == 37) e in there bs (codes "[%%") (drop 3 bs) outside 3 (three 37 37 bs is (eqb-true (get_or bs 1 0) 37 parts.0) (eqb-true (get_or bs 2 0) 37 parts.1) (omega arith) (omega arith)) refl (a_mark item_extension_sign)
      | false ↦ λ e. elim (get_or bs 1 0 == 64 || get_or bs 1 0 == 37) as (λ t. (get_or bs 1 0 == 64 || get_or bs 1 0 == 37) ≡ t → IsThere bs (if t then found outside 2 else found left_bracket 1)) [
        | true ↦ λ e2. elim (or_cases (get_or bs 1 0 == 64) (get_or bs 1 0 == 37) e2) [ inl f ↦ two bs 91 64 outside attribute_sign (omega arith) (omega arith) first f | inr f ↦ two bs 91 37 outside extension_sign (omega arith) (omega arith) first f ]
        | false ↦ λ e2. one bs 91 left_bracket left_bracket_mark (omega arith) first
      ] refl
    ] refl
  where
    three : (b c : ℕ) (l : List ℕ) → get_or l 0 0 ≡ 91 → get_or l 1 0 ≡ b → get_or l 2 0 ≡ c → 0 < b → 0 < c → l ≡ (91 ∷ b ∷ c ∷ []) ++ drop 3 l
    three b c [] e1 e2 e3 p q = absurd (omega (arith, e1))
    three b c (x ∷ []) e1 e2 e3 p q = absurd (omega (arith, e2))
    three b c (x ∷ y ∷ []) e1 e2 e3 p q = absurd (omega (arith, e3))
    three b c (x ∷ y ∷ z ∷ l) e1 e2 e3 p q = ap (λ k. k ∷ y ∷ z ∷ l) e1 ∙ ap (λ k. 91 ∷ k ∷ z ∷ l) e2 ∙ ap (λ k. 91 ∷ b ∷ k ∷ l) e3

ats_there : (bs : List ℕ) → get_or bs 0 0 ≡ 91 → IsThere bs (ats bs)
ats_there bs is =
    elim (get_or bs 1 0 == 64 && get_or bs 2 0 == 64 && get_or bs 3 0 == 64) as (λ t. (get_or bs 1 0 == 64 && get_or bs 2 0 == 64 && get_or bs 3 0 == 64) ≡ t → IsThere bs (if t then found outside 4 else (if get_or bs 1 0 == 64 && get_or bs 2 0 == 64 then found outside 3 else percents bs))) [
      | true ↦ λ e. let parts = and_parts (get_or bs 1 0 == 64 && get_or bs 2 0 == 64) (get_or bs 3 0 == 64) e in let parts2 = and_parts (get_or bs 1 0 == 64) (get_or bs 2 0 == 64) parts.0 in
          there bs (codes "[@@@") (drop 4 bs) outside 4 (four bs is (eqb-true (get_or bs 1 0) 64 parts2.0) (eqb-true (get_or bs 2 0) 64 parts2.1) (eqb-true (get_or bs 3 0) 64 parts.1)) refl (a_mark floating_attribute_sign)
      | false ↦ λ e. elim (get_or bs 1 0 == 64 && get_or bs 2 0 == 64) as (λ t. (get_or bs 1 0 == 64 && get_or bs 2 0 == 64) ≡ t → IsThere bs (if t then found outside 3 else percents bs)) [
        | true ↦ λ e2. let parts = and_parts (get_or bs 1 0 == 64) (get_or bs 2 0 == 64) e2 in there bs (codes "[@@") (drop 3 bs) outside 3 (three bs is (eqb-true (get_or bs 1 0) 64 parts.0) (eqb-true (get_or bs 2 0) 64 parts.1)) refl (a_mark item_attribute_sign)
        | false ↦ λ e2. percents_there bs is
      ] refl
    ] refl
  where
    three : (l : List ℕ) → get_or l 0 0 ≡ 91 → get_or l 1 0 ≡ 64 → get_or l 2 0 ≡ 64 → l ≡ (91 ∷ 64 ∷ 64 ∷ []) ++ drop 3 l
    three [] e1 e2 e3 = absurd (omega (arith, e1))
    three (x ∷ []) e1 e2 e3 = absurd (omega (arith, e2))
    three (x ∷ y ∷ []) e1 e2 e3 = absurd (omega (arith, e3))
    three (x ∷ y ∷ z ∷ l) e1 e2 e3 = ap (λ k. k ∷ y ∷ z ∷ l) e1 ∙ ap (λ k. 91 ∷ k ∷ z ∷ l) e2 ∙ ap (λ k. 91 ∷ 64 ∷ k ∷ l) e3

    four : (l : List ℕ) → get_or l 0 0 ≡ 91 → get_or l 1 0 ≡ 64 → get_or l 2 0 ≡ 64 → get_or l 3 0 ≡ 64 → l ≡ (91 ∷ 64 ∷ 64 ∷ 64 ∷ []) ++ drop 4 l
    four [] e1 e2 e3 e4 = absurd (omega (arith, e1))
    four (x ∷ []) e1 e2 e3 e4 = absurd (omega (arith, e2))
    four (x ∷ y ∷ []) e1 e2 e3 e4 = absurd (omega (arith, e3))
    four (x ∷ y ∷ z ∷ []) e1 e2 e3 e4 = absurd (omega (arith, e4))
    four (x ∷ y ∷ z ∷ u ∷ l) e1 e2 e3 e4 = ap (λ k. k ∷ y ∷ z ∷ u ∷ l) e1 ∙ ap (λ k. 91 ∷ k ∷ z ∷ u ∷ l) e2 ∙ ap (λ k. 91 ∷ 64 ∷ k ∷ u ∷ l) e3 ∙ ap (λ k. 91 ∷ 64 ∷ 64 ∷ k ∷ l) e4

arrays_there : (bs : List ℕ) → get_or bs 0 0 ≡ 91 → IsThere bs (arrays bs)
arrays_there bs is =
    let first = eq-eqb (get_or bs 0 0) 91 is in
    elim (get_or bs 1 0 == 124 || get_or bs 1 0 == 60 || get_or bs 1 0 == 62) as (λ t. (get_or bs 1 0 == 124 || get_or bs 1 0 == 60 || get_or bs 1 0 == 62) ≡ t → IsThere bs (if t then found outside 2 else ats bs)) [
      | true ↦ λ e. elim (or_cases (get_or bs 1 0 == 124 || get_or bs 1 0 == 60) (get_or bs 1 0 == 62) e) [
        | inl f ↦ elim (or_cases (get_or bs 1 0 == 124) (get_or bs 1 0 == 60) f) [ inl g ↦ two bs 91 124 outside left_array_sign (omega arith) (omega arith) first g | inr g ↦ two bs 91 60 outside left_less_sign (omega arith) (omega arith) first g ]
        | inr f ↦ two bs 91 62 outside left_greater_sign (omega arith) (omega arith) first f
      ]
      | false ↦ λ e. ats_there bs is
    ] refl

bracket_there : (bs : List ℕ) → get_or bs 0 0 ≡ 91 → IsThere bs (bracket_found bs)
unfolding bracket_found
bracket_there [] is = absurd (omega (arith, is))
bracket_there (b ∷ cs) is =
    elim (get_or (b ∷ cs) (run_end is_blank 1 (b ∷ cs)) 0 == 93) as (λ t. (get_or (b ∷ cs) (run_end is_blank 1 (b ∷ cs)) 0 == 93) ≡ t → IsThere (b ∷ cs) (if t then found nil (run_end is_blank 1 (b ∷ cs) + 1) else arrays (b ∷ cs))) [
      | true ↦ λ e. nil_there b cs is e
      | false ↦ λ e. arrays_there (b ∷ cs) is
    ] refl

-- one of two sizes
either_size : (t : Bool) (f g : Found) (n : ℕ) → n ≤ f.size → n ≤ g.size → n ≤ size_of (if t then f else g)
either_size true f g n p q = p
either_size false f g n p q = q

percents_some : (bs : List ℕ) → 1 ≤ (percents bs).size
percents_some bs = either_size (get_or bs 1 0 == 37 && get_or bs 2 0 == 37) (found outside 3) (if get_or bs 1 0 == 64 || get_or bs 1 0 == 37 then found outside 2 else found left_bracket 1) 1 (omega arith) (either_size (get_or bs 1 0 == 64 || get_or bs 1 0 == 37) (found outside 2) (found left_bracket 1) 1 (omega arith) (omega arith))

arrays_some : (bs : List ℕ) → 1 ≤ (arrays bs).size
arrays_some bs = either_size (get_or bs 1 0 == 124 || get_or bs 1 0 == 60 || get_or bs 1 0 == 62) (found outside 2) (ats bs) 1 (omega arith) (either_size (get_or bs 1 0 == 64 && get_or bs 2 0 == 64 && get_or bs 3 0 == 64) (found outside 4) (if get_or bs 1 0 == 64 && get_or bs 2 0 == 64 then found outside 3 else percents bs) 1 (omega arith) (either_size (get_or bs 1 0 == 64 && get_or bs 2 0 == 64) (found outside 3) (percents bs) 1 (omega arith) (percents_some bs)))

-- a mark at the front is no longer than what is found
mark_in_bracket : {front : List ℕ} (behind : List ℕ) → BracketMark front → length front ≤ (bracket_found (front ++ behind)).size
unfolding bracket_found
mark_in_bracket behind one_bracket = either_size (get_or (91 ∷ behind) (run_end is_blank 1 (91 ∷ behind)) 0 == 93) (found nil (run_end is_blank 1 (91 ∷ behind) + 1)) (arrays (91 ∷ behind)) 1 (omega arith) (arrays_some (91 ∷ behind))
mark_in_bracket behind array = omega arith
mark_in_bracket behind less = omega arith
mark_in_bracket behind greater = omega arith
mark_in_bracket behind at_one = either_size (get_or behind 0 0 == 64 && get_or behind 1 0 == 64) (found outside 4) (if get_or behind 0 0 == 64 then found outside 3 else found outside 2) 2 (omega arith) (either_size (get_or behind 0 0 == 64) (found outside 3) (found outside 2) 2 (omega arith) (omega arith))
mark_in_bracket behind at_two = either_size (get_or behind 0 0 == 64) (found outside 4) (found outside 3) 3 (omega arith) (omega arith)
mark_in_bracket behind at_three = omega arith
mark_in_bracket behind percent_one = either_size (get_or behind 0 0 == 37) (found outside 3) (found outside 2) 2 (omega arith) (omega arith)
mark_in_bracket behind percent_two = omega arith

nil_in_bracket : (a behind : List ℕ) → AreBlanks a → length (91 ∷ a ++ codes "]") ≤ (bracket_found ((91 ∷ a ++ codes "]") ++ behind)).size
unfolding bracket_found
nil_in_bracket a behind blanks =
    let is = nil_size a behind blanks in
    let bs = (91 ∷ a ++ codes "]") ++ behind in
    subst (λ t. length (91 ∷ a ++ codes "]") ≤ size_of (if t then found nil (run_end is_blank 1 bs + 1) else arrays bs)) (sym is.1) (omega (arith, is.0, length-append a (codes "]")))

bracket_longest : (bs : List ℕ) → NoLonger bracket_class bs (bracket_found bs).size
bracket_longest bs front behind whole of = elim of [
  | inl m ↦ subst (λ (l : List ℕ). length front ≤ (bracket_found l).size) (sym whole) (mark_in_bracket behind m)
  | inr i ↦ subst (λ (l : List ℕ). length front ≤ (bracket_found l).size) (sym whole) (subst (λ (w : List ℕ). length w ≤ (bracket_found (w ++ behind)).size) (sym i.2) (nil_in_bracket i.0 behind i.1))
]

pub bracket_is : (bs : List ℕ) → get_or bs 0 0 ≡ 91 → FoundIs bracket_class bs (bracket_found bs)
bracket_is bs is =
    let t = bracket_there bs is in
    is_spelled (record { spelled = t.spelled; name = t.spelled; rest = t.rest; whole = t.whole; size = t.size; named = t.named; spells = t.spells; longest = bracket_longest bs })
