-- What begins with a digit.
use Rattle.std.proofs.Common.{◌≡◌, ◌+◌, ◌-◌, ◌≤◌, ◌<◌, ◌++◌, ◌∷◌, [], ℕ, suc, List, Bool, true, false, take, drop, length, get_or, sym, subst, arith, refl, ap, ◌∙◌, append_assoc, length-append, length-take, inl, inr}
use Rattle.std.specs.Prelude.{if◌then◌else◌, ◌&&◌, ◌||◌, ◌==◌, nat_lt}
use Rattle.std.specs.List.{list_all}
use Rattle.std.proofs.Math.Seq.{drop-append_seam}
use Rattle.std.proofs.lemmas.List.{take-append-drop, drop-drop, get_or-drop}
use Rattle.std.proofs.lemmas.Bool.{and_parts, and_from, eqb-true, eqb-false, eq-eqb, both_ways, ltb-true, ltb-false}
use Rattle.std.proofs.lemmas.Bool.Decides.{nat_tests}
use Rattle.token_model.specs.Kinds.{Kind, int, float, outside}
use Rattle.token_model.specs.Bytes.{is_digit, is_decimal, is_digit_of, goes_on, begins}
use Rattle.token_model.specs.Spellings.{Run, decimal, based, float_with, IsFraction, no_fraction, fraction, IsExponent, no_exponent, exponent, signed_exponent, Spells, an_int, a_float, a_broken_numeral}
use Rattle.ml_lexer.specs.Scans.{Found, found, run_length, run_end, is_based, based_end, is_e, is_plus_or_minus, fraction_end, exponent_end, literal_found, with_behind, numeral_found}
use Rattle.ml_lexer.proofs.Runs.{front_in_run, run_exact, run_passes, run_le, run_later}
use Rattle.ml_lexer.proofs.Classes.{IsLiteral, digit_class}
use Rattle.ml_lexer.proofs.Spelled.{NoLonger, plainly, run_all, run_front}
use Rattle.ml_lexer.proofs.SpelledMarks.{FoundIs, is_spelled}

pub digit_is_decimal : (b : ℕ) → is_digit b ≡ true → is_decimal b ≡ true
digit_is_decimal b is = grind (arith, nat_tests)

e_not_decimal : (b : ℕ) → is_e b ≡ true → (is_decimal b ≡ false) × ((b == 46) ≡ false)
e_not_decimal b is = (grind (arith, nat_tests), grind (arith, nat_tests))

sign_not_digit : (b : ℕ) → is_plus_or_minus b ≡ true → is_digit b ≡ false
sign_not_digit b is = grind (arith, nat_tests)

-- the byte at a place, from there on
get_at : (p k : ℕ) (bs : List ℕ) → get_or bs (p + k) 0 ≡ get_or (drop p bs) k 0
get_at p k bs = sym (get_or-drop p bs k 0)

get_here : (p : ℕ) (bs : List ℕ) → get_or bs p 0 ≡ get_or (drop p bs) 0 0
get_here p bs = let same : p ≡ p + 0 = omega arith in ap (λ k. get_or bs k 0) same ∙ get_at p 0 bs

drop_by : (p : ℕ) (u l bs : List ℕ) → drop p bs ≡ u ++ l → drop (p + length u) bs ≡ l
drop_by p u l bs is = sym (drop-drop (length u) p bs) ∙ ap (λ (x : List ℕ). drop (length u) x) is ∙ drop-append_seam u l

digit_first : (ds more : List ℕ) → Run is_digit is_decimal ds → is_digit (get_or (ds ++ more) 0 0) ≡ true
digit_first [] more run = absurd run
digit_first (d ∷ ds) more run = run.0

and_off : (t u : Bool) → u ≡ false → (t && u) ≡ false
and_off true u off = off
and_off false u off = refl

-- a fraction is there
fraction_there : (p : ℕ) (bs : List ℕ) → (f : List ℕ) × (rest : List ℕ) × (drop p bs ≡ f ++ rest) × (IsFraction f) × (fraction_end p bs ≡ p + length f)
fraction_there p bs =
    elim (get_or bs p 0 == 46) as (λ t. (get_or bs p 0 == 46) ≡ t → (f : List ℕ) × (rest : List ℕ) × (drop p bs ≡ f ++ rest) × (IsFraction f) × ((if t then run_end is_decimal (p + 1) bs else p) ≡ p + length f)) [
      | true ↦ λ e.
          let l = drop (p + 1) bs in
          let n = run_length is_decimal l in
          let point : drop p bs ≡ 46 ∷ l = pointed (drop p bs) (sym (get_here p bs) ∙ eqb-true (get_or bs p 0) 46 e) ∙ ap (λ (x : List ℕ). 46 ∷ x) (drop-drop 1 p bs) in
          (46 ∷ take n l, drop n l, point ∙ ap (λ (x : List ℕ). 46 ∷ x) (sym (take-append-drop n l)), fraction (run_passes is_decimal l), omega (arith, run_le is_decimal l, length-take n l))
      | false ↦ λ e. ([], drop p bs, refl, no_fraction, omega arith)
    ] refl
  where
    pointed : (x : List ℕ) → get_or x 0 0 ≡ 46 → x ≡ 46 ∷ drop 1 x
    pointed [] is = absurd (omega (arith, is))
    pointed (b ∷ x) is = ap (λ k. k ∷ x) is

-- bytes whose first one passes a test that 0 fails
begun : (test : ℕ → Bool) (x : List ℕ) → test 0 ≡ false → test (get_or x 0 0) ≡ true → x ≡ get_or x 0 0 ∷ drop 1 x
begun test [] none is = absurd (both_ways (test 0) none is)
begun test (b ∷ x) none is = refl

-- digits behind a first one
digits_run : (l : List ℕ) → is_digit (get_or l 0 0) ≡ true → Run is_digit is_decimal (take (run_length is_decimal l) l)
digits_run [] is = absurd (both_ways (is_digit 0) refl is)
digits_run (b ∷ l) is = run_front is_digit is_decimal (b ∷ l) (omega arith) is (digit_is_decimal b is)

-- an exponent is there
exponent_there : (p : ℕ) (bs : List ℕ) → (e : List ℕ) × (rest : List ℕ) × (drop p bs ≡ e ++ rest) × (IsExponent e) × (exponent_end p bs ≡ p + length e)
exponent_there p bs =
    elim (is_e (get_or bs p 0) && is_digit (get_or bs (p + 1) 0)) as (λ t. (is_e (get_or bs p 0) && is_digit (get_or bs (p + 1) 0)) ≡ t → (e : List ℕ) × (rest : List ℕ) × (drop p bs ≡ e ++ rest) × (IsExponent e) × ((if t then run_end is_decimal (p + 1) bs else (if is_e (get_or bs p 0) && is_plus_or_minus (get_or bs (p + 1) 0) && is_digit (get_or bs (p + 2) 0) then run_end is_decimal (p + 2) bs else p)) ≡ p + length e)) [
      | true ↦ λ e.
          let parts = and_parts (is_e (get_or bs p 0)) (is_digit (get_or bs (p + 1) 0)) e in
          let l = drop (p + 1) bs in
          let n = run_length is_decimal l in
          let c = get_or (drop p bs) 0 0 in
          let is : is_e c ≡ true = ap is_e (sym (get_here p bs)) ∙ parts.0 in
          let cut : drop p bs ≡ c ∷ l = begun is_e (drop p bs) refl is ∙ ap (λ (x : List ℕ). c ∷ x) (drop-drop 1 p bs) in
          (c ∷ take n l, drop n l, cut ∙ ap (λ (x : List ℕ). c ∷ x) (sym (take-append-drop n l)), exponent is (digits_run l (ap is_digit (sym (get_here (p + 1) bs)) ∙ parts.1)), omega (arith, run_le is_decimal l, length-take n l))
      | false ↦ λ none. elim (is_e (get_or bs p 0) && is_plus_or_minus (get_or bs (p + 1) 0) && is_digit (get_or bs (p + 2) 0)) as (λ t. (is_e (get_or bs p 0) && is_plus_or_minus (get_or bs (p + 1) 0) && is_digit (get_or bs (p + 2) 0)) ≡ t → (e : List ℕ) × (rest : List ℕ) × (drop p bs ≡ e ++ rest) × (IsExponent e) × ((if t then run_end is_decimal (p + 2) bs else p) ≡ p + length e)) [
        | true ↦ λ e.
            let parts2 = and_parts (is_e (get_or bs p 0) && is_plus_or_minus (get_or bs (p + 1) 0)) (is_digit (get_or bs (p + 2) 0)) e in
            let parts = and_parts (is_e (get_or bs p 0)) (is_plus_or_minus (get_or bs (p + 1) 0)) parts2.0 in
            let l = drop (p + 2) bs in
            let n = run_length is_decimal l in
            let c = get_or (drop p bs) 0 0 in
            let s = get_or (drop (p + 1) bs) 0 0 in
            let is : is_e c ≡ true = ap is_e (sym (get_here p bs)) ∙ parts.0 in
            let sign : is_plus_or_minus s ≡ true = ap is_plus_or_minus (sym (get_here (p + 1) bs)) ∙ parts.1 in
            let place : p + 1 + 1 ≡ p + 2 = omega arith in
            let cut2 : drop (p + 1) bs ≡ s ∷ l = begun is_plus_or_minus (drop (p + 1) bs) refl sign ∙ ap (λ (x : List ℕ). s ∷ x) (drop-drop 1 (p + 1) bs ∙ ap (λ k. drop k bs) place) in
            let cut : drop p bs ≡ c ∷ s ∷ l = begun is_e (drop p bs) refl is ∙ ap (λ (x : List ℕ). c ∷ x) (drop-drop 1 p bs ∙ cut2) in
            (c ∷ s ∷ take n l, drop n l, cut ∙ ap (λ (x : List ℕ). c ∷ s ∷ x) (sym (take-append-drop n l)), signed_exponent is sign (digits_run l (ap is_digit (sym (get_here (p + 2) bs)) ∙ parts2.1)), omega (arith, run_le is_decimal l, length-take n l))
        | false ↦ λ none. ([], drop p bs, refl, no_exponent, omega arith)
      ] refl
    ] refl

-- an exponent at a place is no longer than what the scan finds
exponent_fits : (p : ℕ) (e more bs : List ℕ) → drop p bs ≡ e ++ more → IsExponent e → p + length e ≤ exponent_end p bs
exponent_fits p e more bs is no_exponent = omega (arith, (exponent_there p bs).4)
exponent_fits p e more bs is (exponent {e = c} {ds = ds} letter run) =
    let first : is_e (get_or bs p 0) ≡ true = ap is_e (get_here p bs ∙ ap (λ (x : List ℕ). get_or x 0 0) is) ∙ letter in
    let later : drop (p + 1) bs ≡ ds ++ more = sym (drop-drop 1 p bs) ∙ ap (λ (x : List ℕ). drop 1 x) is in
    let second : is_digit (get_or bs (p + 1) 0) ≡ true = ap is_digit (get_here (p + 1) bs ∙ ap (λ (x : List ℕ). get_or x 0 0) later) ∙ digit_first ds more run in
    let end : exponent_end p bs ≡ run_end is_decimal (p + 1) bs = ap (λ t. if t then run_end is_decimal (p + 1) bs else (if is_e (get_or bs p 0) && is_plus_or_minus (get_or bs (p + 1) 0) && is_digit (get_or bs (p + 2) 0) then run_end is_decimal (p + 2) bs else p)) (and_from (is_e (get_or bs p 0)) (is_digit (get_or bs (p + 1) 0)) first second) in
    omega (arith, end, ap (λ (x : List ℕ). run_length is_decimal x) later, front_in_run is_decimal ds more (run_all is_digit is_decimal ds digit_is_decimal run))
exponent_fits p e more bs is (signed_exponent {e = c} {s = s} {ds = ds} letter sign run) =
    let first : is_e (get_or bs p 0) ≡ true = ap is_e (get_here p bs ∙ ap (λ (x : List ℕ). get_or x 0 0) is) ∙ letter in
    let next : drop (p + 1) bs ≡ s ∷ ds ++ more = sym (drop-drop 1 p bs) ∙ ap (λ (x : List ℕ). drop 1 x) is in
    let place : p + 1 + 1 ≡ p + 2 = omega arith in
    let later : drop (p + 2) bs ≡ ds ++ more = sym (drop-drop 1 (p + 1) bs ∙ ap (λ k. drop k bs) place) ∙ ap (λ (x : List ℕ). drop 1 x) next in
    let second_is : get_or bs (p + 1) 0 ≡ s = get_here (p + 1) bs ∙ ap (λ (x : List ℕ). get_or x 0 0) next in
    let second : is_plus_or_minus (get_or bs (p + 1) 0) ≡ true = ap is_plus_or_minus second_is ∙ sign in
    let third : is_digit (get_or bs (p + 2) 0) ≡ true = ap is_digit (get_here (p + 2) bs ∙ ap (λ (x : List ℕ). get_or x 0 0) later) ∙ digit_first ds more run in
    let no_digit : (is_e (get_or bs p 0) && is_digit (get_or bs (p + 1) 0)) ≡ false = and_off (is_e (get_or bs p 0)) (is_digit (get_or bs (p + 1) 0)) (sign_not_digit (get_or bs (p + 1) 0) second) in
    let end : exponent_end p bs ≡ run_end is_decimal (p + 2) bs =
    ap (λ t. if t then run_end is_decimal (p + 1) bs else (if is_e (get_or bs p 0) && is_plus_or_minus (get_or bs (p + 1) 0) && is_digit (get_or bs (p + 2) 0) then run_end is_decimal (p + 2) bs else p)) no_digit
    ∙ ap (λ t. if t then run_end is_decimal (p + 2) bs else p) (and_from (is_e (get_or bs p 0) && is_plus_or_minus (get_or bs (p + 1) 0)) (is_digit (get_or bs (p + 2) 0)) (and_from (is_e (get_or bs p 0)) (is_plus_or_minus (get_or bs (p + 1) 0)) first second) third) in
    omega (arith, end, ap (λ (x : List ℕ). run_length is_decimal x) later, front_in_run is_decimal ds more (run_all is_digit is_decimal ds digit_is_decimal run))

-- the end of a fraction before what neither is a digit nor a point
fraction_exact : (p : ℕ) (f tail bs : List ℕ) → drop p bs ≡ f ++ tail → IsFraction f → begins is_decimal tail ≡ false → (get_or tail 0 0 == 46) ≡ false → fraction_end p bs ≡ p + length f
fraction_exact p f tail bs is no_fraction digits point = ap (λ t. if t then run_end is_decimal (p + 1) bs else p) (ap (λ k. k == 46) (get_here p bs ∙ ap (λ (x : List ℕ). get_or x 0 0) is) ∙ point) ∙ omega arith
fraction_exact p f tail bs is (fraction {ds = ds} all) digits point =
    let later : drop (p + 1) bs ≡ ds ++ tail = sym (drop-drop 1 p bs) ∙ ap (λ (x : List ℕ). drop 1 x) is in
    ap (λ t. if t then run_end is_decimal (p + 1) bs else p) (eq-eqb (get_or bs p 0) 46 (get_here p bs ∙ ap (λ (x : List ℕ). get_or x 0 0) is)) ∙ omega (arith, ap (run_length is_decimal) later, run_exact is_decimal ds tail all digits)

fraction_fits : (p : ℕ) (ds tail bs : List ℕ) → drop p bs ≡ 46 ∷ ds ++ tail → list_all is_decimal ds ≡ true → p + suc (length ds) ≤ fraction_end p bs
fraction_fits p ds tail bs is all =
    let later : drop (p + 1) bs ≡ ds ++ tail = sym (drop-drop 1 p bs) ∙ ap (λ (x : List ℕ). drop 1 x) is in
    let end : fraction_end p bs ≡ run_end is_decimal (p + 1) bs = ap (λ t. if t then run_end is_decimal (p + 1) bs else p) (eq-eqb (get_or bs p 0) 46 (get_here p bs ∙ ap (λ (x : List ℕ). get_or x 0 0) is)) in
    omega (arith, end, ap (run_length is_decimal) later, front_in_run is_decimal ds tail all)

-- the end of decimal digits, of a fraction and of an exponent
abbrev digits_end : List ℕ → ℕ
digits_end bs = run_end is_decimal 0 bs

abbrev decimal_end : List ℕ → ℕ
decimal_end bs = exponent_end (fraction_end (digits_end bs) bs) bs

ends_in_order : (bs : List ℕ) → (digits_end bs ≤ fraction_end (digits_end bs) bs) × (fraction_end (digits_end bs) bs ≤ decimal_end bs)
ends_in_order bs = (omega (arith, (fraction_there (digits_end bs) bs).4), omega (arith, (exponent_there (fraction_end (digits_end bs) bs) bs).4))

digits_exact : (ds tail bs : List ℕ) → bs ≡ ds ++ tail → Run is_digit is_decimal ds → begins is_decimal tail ≡ false → digits_end bs ≡ length ds
digits_exact ds tail bs is run ends = omega (arith, ap (run_length is_decimal) is, run_exact is_decimal ds tail (run_all is_digit is_decimal ds digit_is_decimal run) ends)

digits_fit : (ds tail bs : List ℕ) → bs ≡ ds ++ tail → Run is_digit is_decimal ds → length ds ≤ digits_end bs
digits_fit ds tail bs is run = omega (arith, ap (run_length is_decimal) is, front_in_run is_decimal ds tail (run_all is_digit is_decimal ds digit_is_decimal run))

-- a floating-point literal with an exponent
float_fits : (ds f e more bs : List ℕ) → bs ≡ ds ++ (f ++ (e ++ more)) → Run is_digit is_decimal ds → IsFraction f → IsExponent e → is_e (get_or (e ++ more) 0 0) ≡ true → begins is_decimal (e ++ more) ≡ false → length ds + length f + length e ≤ decimal_end bs
float_fits ds f e more bs is run frac expo letter stops =
    let tail = e ++ more in
    let ends = e_not_decimal (get_or tail 0 0) letter in
    let d_is : digits_end bs ≡ length ds = digits_exact ds (f ++ tail) bs is run (no_digit f frac) in
    let here : drop (digits_end bs) bs ≡ f ++ tail = ap (λ k. drop k bs) d_is ∙ ap (λ (x : List ℕ). drop (length ds) x) is ∙ drop-append_seam ds (f ++ tail) in
    let p_is : fraction_end (digits_end bs) bs ≡ digits_end bs + length f = fraction_exact (digits_end bs) f tail bs here frac stops ends.1 in
    let there : drop (fraction_end (digits_end bs) bs) bs ≡ tail = ap (λ k. drop k bs) p_is ∙ drop_by (digits_end bs) f tail bs here in
    omega (arith, exponent_fits (fraction_end (digits_end bs) bs) e more bs there expo, d_is, p_is)
  where
    no_digit : (g : List ℕ) → IsFraction g → begins is_decimal (g ++ (e ++ more)) ≡ false
    no_digit g no_fraction = stops
    no_digit g (fraction all) = refl

float_longest : (ds f e more bs : List ℕ) → bs ≡ ds ++ (f ++ (e ++ more)) → Run is_digit is_decimal ds → IsFraction f → IsExponent e → (f ++ e ≡ [] → ⊥) → length ds + length f + length e ≤ decimal_end bs
float_longest ds f e more bs is run no_fraction no_exponent some = absurd (some refl)
float_longest ds f e more bs is run (fraction {ds = fs} all) no_exponent some =
    let d_is : digits_end bs ≡ length ds = digits_exact ds (46 ∷ fs ++ more) bs is run refl in
    let here : drop (digits_end bs) bs ≡ 46 ∷ fs ++ more = ap (λ k. drop k bs) d_is ∙ ap (λ (x : List ℕ). drop (length ds) x) is ∙ drop-append_seam ds (46 ∷ fs ++ more) in
    omega (arith, fraction_fits (digits_end bs) fs more bs here all, d_is, ends_in_order bs)
float_longest ds f e more bs is run frac (exponent {e = c} letter digits) some = float_fits ds f e more bs is run frac (exponent letter digits) letter (e_not_decimal c letter).0
float_longest ds f e more bs is run frac (signed_exponent {e = c} letter sign digits) some = float_fits ds f e more bs is run frac (signed_exponent letter sign digits) letter (e_not_decimal c letter).0

float_order : (ds f e more : List ℕ) → (ds ++ f ++ e) ++ more ≡ ds ++ (f ++ (e ++ more))
float_order ds f e more = append_assoc (ds ++ f) e more ∙ append_assoc ds f (e ++ more)

length-float : (ds f e : List ℕ) → length (ds ++ f ++ e) ≡ length ds + length f + length e
length-float ds f e = omega (arith, length-append (ds ++ f) e, length-append ds f)

-- a base's letter and digits make the numeral a based one
based_test : (letter : ℕ) (ds more : List ℕ) → Run (is_digit_of letter) (λ b. is_digit_of letter b || b == 95) ds → is_digit_of letter (get_or (ds ++ more) 0 0) ≡ true
based_test letter [] more run = absurd run
based_test letter (d ∷ ds) more run = run.0

decimal_longest : (bs u more : List ℕ) → is_based bs ≡ false → bs ≡ u ++ more → IsLiteral u → length u ≤ decimal_end bs
decimal_longest bs u more no_base is (inl (decimal run)) = omega (arith, digits_fit u more bs is run, ends_in_order bs)
decimal_longest bs u more no_base is (inl (based {letter = c} {ds = ds} run)) = absurd (both_ways (is_based bs) no_base (ap is_based is ∙ based_test c ds more run))
decimal_longest bs u more no_base is (inr (float_with ds f e run frac expo some)) = omega (arith, float_longest ds f e more bs (is ∙ float_order ds f e more) run frac expo some, length-float ds f e)

-- the longest literal is there
pub record IsLongestLiteral (bs : List ℕ) (k : Kind) (n : ℕ) : Type 0 where
  pub spelled : List ℕ
  pub rest : List ℕ
  pub whole : bs ≡ spelled ++ rest
  pub size : n ≡ length spelled
  pub spells : (behind : List ℕ) → Spells k spelled spelled behind
  pub literal : IsLiteral spelled
  pub longest : (u more : List ℕ) → bs ≡ u ++ more → IsLiteral u → length u ≤ n

decimal_int : (bs : List ℕ) → is_based bs ≡ false → is_digit (get_or bs 0 0) ≡ true → decimal_end bs ≡ digits_end bs → IsLongestLiteral bs int (digits_end bs)
decimal_int bs no_base is same =
    let n = run_length is_decimal bs in
    let run = digits_run bs is in
    record { spelled = take n bs; rest = drop n bs; whole = sym (take-append-drop n bs); size = omega (arith, run_le is_decimal bs, length-take n bs); spells = λ behind. an_int (decimal run); literal = inl (decimal run); longest = λ u more whole l. omega (arith, decimal_longest bs u more no_base whole l, same) }

decimal_float : (bs : List ℕ) → is_based bs ≡ false → is_digit (get_or bs 0 0) ≡ true → (decimal_end bs ≡ digits_end bs → ⊥) → IsLongestLiteral bs float (decimal_end bs)
decimal_float bs no_base is other =
    let n = run_length is_decimal bs in
    let ds = take n bs in
    let run = digits_run bs is in
    let frac = fraction_there (digits_end bs) bs in
    let f = frac.0 in
    let expo = exponent_there (fraction_end (digits_end bs) bs) bs in
    let e = expo.0 in
    let rest = expo.1 in
    let d_is : digits_end bs ≡ n = omega arith in
    let there : drop (fraction_end (digits_end bs) bs) bs ≡ frac.1 = ap (λ k. drop k bs) frac.4 ∙ drop_by (digits_end bs) f frac.1 bs frac.2 in
    let order : bs ≡ ds ++ (f ++ (e ++ rest)) = sym (take-append-drop n bs) ∙ ap (λ (x : List ℕ). ds ++ x) (ap (λ k. drop k bs) (sym d_is) ∙ frac.2 ∙ ap (λ (x : List ℕ). f ++ x) (sym there ∙ expo.2)) in
    let some : f ++ e ≡ [] → ⊥ = λ none. other (omega (arith, frac.4, expo.4, ap length none, length-append f e)) in
    let literal = float_with ds f e run frac.3 expo.3 some in
    record { spelled = ds ++ f ++ e; rest = rest; whole = order ∙ sym (float_order ds f e rest); size = omega (arith, frac.4, expo.4, length-float ds f e, run_le is_decimal bs, length-take n bs); spells = λ behind. a_float literal; literal = inr literal; longest = λ u more whole l. decimal_longest bs u more no_base whole l }

-- the letter of a base is no digit, point or `e`, and 0 is no digit of it
base_letter : (c b : ℕ) → is_digit_of c b ≡ true → (is_decimal c ≡ false) × ((c == 46) ≡ false) × (is_e c ≡ false)
base_letter c b is = base_cases c (letter_is c b is)
  where
    base_cases : (x : ℕ) → (x == 120 || x == 88 || x == 111 || x == 79 || x == 98 || x == 66) ≡ true → (is_decimal x ≡ false) × ((x == 46) ≡ false) × (is_e x ≡ false)
    base_cases x e = (grind (arith, nat_tests), grind (arith, nat_tests), grind (arith, nat_tests))

    letter_is : (x y : ℕ) → is_digit_of x y ≡ true → (x == 120 || x == 88 || x == 111 || x == 79 || x == 98 || x == 66) ≡ true
    letter_is x y e = grind (arith, nat_tests)

-- 0 is a digit of no letter's base
no_base_digit : (c : ℕ) → is_digit_of c 0 ≡ false
no_base_digit c = grind (arith, nat_tests)

tails_same : {a b c d : ℕ} {l m : List ℕ} → a ∷ b ∷ l ≡ c ∷ d ∷ m → (b ≡ d) × (l ≡ m)
tails_same e = (cc, cc)

-- nothing longer than a based numeral is a literal
based_int : (c : ℕ) (l ds more : List ℕ) (letter : ℕ) → 48 ∷ c ∷ l ≡ 48 ∷ letter ∷ ds ++ more → Run (is_digit_of letter) (λ b. is_digit_of letter b || b == 95) ds → length ds ≤ run_length (λ b. is_digit_of c b || b == 95) l
based_int c l ds more letter same run =
    let tails = tails_same same in
    let all = run_all (is_digit_of letter) (λ b. is_digit_of letter b || b == 95) ds (λ b is. ap (λ t. t || b == 95) is) run in
    subst (λ (x : List ℕ). length ds ≤ run_length (λ b. is_digit_of c b || b == 95) x) (sym tails.1) (subst (λ k. length ds ≤ run_length (λ b. is_digit_of k b || b == 95) (ds ++ more)) (sym tails.0) (front_in_run (λ b. is_digit_of letter b || b == 95) ds more all))

-- the digits before a base's letter are one
one_digit : (c : ℕ) (l : List ℕ) → is_decimal c ≡ false → digits_end (48 ∷ c ∷ l) ≡ 1
one_digit c l off = let none : run_length is_decimal (c ∷ l) ≡ 0 = ap (λ t. if t then run_length is_decimal l + 1 else 0) off in omega (arith, none)

no_float : (c : ℕ) (l ds f e more : List ℕ) → (is_decimal c ≡ false) × ((c == 46) ≡ false) × (is_e c ≡ false) → 48 ∷ c ∷ l ≡ ds ++ (f ++ (e ++ more)) → Run is_digit is_decimal ds → IsFraction f → IsExponent e → (f ++ e ≡ [] → ⊥) → ⊥
no_float c l ds f e more off is run frac expo some = clash f e frac expo some refl
  where
    first_is : (x : List ℕ) → 48 ∷ c ∷ l ≡ ds ++ x → begins is_decimal x ≡ false → c ≡ get_or x 0 0
    first_is x same stops =
        let size : digits_end (48 ∷ c ∷ l) ≡ length ds = digits_exact ds x (48 ∷ c ∷ l) same run stops in
        let one : length ds ≡ 1 = sym size ∙ one_digit c l off.0 in
        ap (λ (y : List ℕ). get_or y 0 0) (ap (λ k. drop k (48 ∷ c ∷ l)) (sym one) ∙ ap (λ (y : List ℕ). drop (length ds) y) same ∙ drop-append_seam ds x)

    clash : (g h : List ℕ) → IsFraction g → IsExponent h → (g ++ h ≡ [] → ⊥) → g ++ (h ++ more) ≡ f ++ (e ++ more) → ⊥
    clash g h no_fraction no_exponent none same = none refl
    clash g h (fraction {ds = fs} all) expo2 none same = both_ways (c == 46) off.1 (eq-eqb c 46 (first_is (46 ∷ fs ++ (h ++ more)) (is ∙ ap (λ (x : List ℕ). ds ++ x) (sym same)) refl))
    clash g h no_fraction (exponent {e = k} {ds = es} letter digits) none same = both_ways (is_e c) off.2 (ap is_e (first_is (k ∷ es ++ more) (is ∙ ap (λ (x : List ℕ). ds ++ x) (sym same)) (e_not_decimal k letter).0) ∙ letter)
    clash g h no_fraction (signed_exponent {e = k} {s = s} {ds = es} letter sign digits) none same = both_ways (is_e c) off.2 (ap is_e (first_is (k ∷ s ∷ es ++ more) (is ∙ ap (λ (x : List ℕ). ds ++ x) (sym same)) (e_not_decimal k letter).0) ∙ letter)

based_longest : (c : ℕ) (l u more : List ℕ) → (is_decimal c ≡ false) × ((c == 46) ≡ false) × (is_e c ≡ false) → 48 ∷ c ∷ l ≡ u ++ more → IsLiteral u → length u ≤ based_end c (48 ∷ c ∷ l)
based_longest c l u more off is (inl (decimal run)) = omega (arith, digits_fit u more (48 ∷ c ∷ l) is run, one_digit c l off.0)
based_longest c l u more off is (inl (based {letter = k} {ds = ds} run)) = omega (arith, based_int c l ds more k is run)
based_longest c l u more off is (inr (float_with ds f e run frac expo some)) = absurd (no_float c l ds f e more off (is ∙ float_order ds f e more) run frac expo some)

based_known : (c : ℕ) (l : List ℕ) → is_digit_of c (get_or l 0 0) ≡ true → IsLongestLiteral (48 ∷ c ∷ l) int (based_end c (48 ∷ c ∷ l))
based_known c [] is = absurd (both_ways (is_digit_of c 0) (no_base_digit c) is)
based_known c (d ∷ l) is =
    let test : ℕ → Bool = λ b. is_digit_of c b || b == 95 in
    let n = run_length test (d ∷ l) in
    let run = run_front (is_digit_of c) test (d ∷ l) (omega arith) is (ap (λ t. t || d == 95) is) in
    let w = 48 ∷ c ∷ take n (d ∷ l) in
    record { spelled = w; rest = drop n (d ∷ l); whole = ap (λ (x : List ℕ). 48 ∷ c ∷ x) (sym (take-append-drop n (d ∷ l))); size = omega (arith, run_le test (d ∷ l), length-take n (d ∷ l)); spells = λ behind. an_int (based run); literal = inl (based run); longest = λ u more whole k. based_longest c (d ∷ l) u more (base_letter c d is) whole k }

based_literal : (bs : List ℕ) → is_based bs ≡ true → IsLongestLiteral bs int (based_end (get_or bs 1 0) bs)
based_literal [] is = absurd (both_ways false refl is)
based_literal (b ∷ []) is = absurd (both_ways (is_digit_of 0 0) refl (and_parts (b == 48) (is_digit_of 0 0) is).1)
based_literal (b ∷ c ∷ l) is =
    let parts = and_parts (b == 48) (is_digit_of c (get_or l 0 0)) is in
    subst (λ x. IsLongestLiteral (x ∷ c ∷ l) int (based_end c (x ∷ c ∷ l))) (sym (eqb-true b 48 parts.0)) (based_known c l parts.1)

-- what the scan for a literal finds
literal_there : (bs : List ℕ) → is_digit (get_or bs 0 0) ≡ true → (k : Kind) × (n : ℕ) × (literal_found bs ≡ found k n) × (IsLongestLiteral bs k n)
unfolding literal_found
literal_there bs is =
    elim (is_based bs) as (λ t. is_based bs ≡ t → (k : Kind) × (n : ℕ) × ((if t then found int (based_end (get_or bs 1 0) bs) else (if decimal_end bs == digits_end bs then found int (digits_end bs) else found float (decimal_end bs))) ≡ found k n) × (IsLongestLiteral bs k n)) [
      | true ↦ λ e. (int, based_end (get_or bs 1 0) bs, refl, based_literal bs e)
      | false ↦ λ e. elim (decimal_end bs == digits_end bs) as (λ t. (decimal_end bs == digits_end bs) ≡ t → (k : Kind) × (n : ℕ) × ((if t then found int (digits_end bs) else found float (decimal_end bs)) ≡ found k n) × (IsLongestLiteral bs k n)) [
        | true ↦ λ e2. (int, digits_end bs, refl, decimal_int bs e is (eqb-true (decimal_end bs) (digits_end bs) e2))
        | false ↦ λ e2. (float, decimal_end bs, refl, decimal_float bs e is (eqb-false (decimal_end bs) (digits_end bs) e2))
      ] refl
    ] refl

-- a numeral at the front is no longer than the literal and the identifier characters behind it
numeral_longest : (bs : List ℕ) (k : Kind) (n : ℕ) → IsLongestLiteral bs k n → NoLonger digit_class bs (run_end goes_on n bs)
numeral_longest bs k n lit front behind whole of =
    let u = of.0 in
    let v = of.1 in
    let order : bs ≡ u ++ (v ++ behind) = whole ∙ ap (λ (l : List ℕ). l ++ behind) of.4 ∙ append_assoc u v behind in
    let short : length u ≤ n = lit.longest u (v ++ behind) order of.2 in
    let place : length u + (n - length u) ≡ n = omega arith in
    let here : drop (length u) bs ≡ v ++ behind = ap (λ (l : List ℕ). drop (length u) l) order ∙ drop-append_seam u (v ++ behind) in
    let later : drop (n - length u) (drop (length u) bs) ≡ drop n bs = drop-drop (n - length u) (length u) bs ∙ ap (λ j. drop j bs) place in
    omega (arith, run_later goes_on (n - length u) (drop (length u) bs), ap (run_length goes_on) later, ap (run_length goes_on) here, front_in_run goes_on v behind of.3, ap length of.4, length-append u v)

name_run : (l : List ℕ) → 0 < run_length goes_on l → Run goes_on goes_on (take (run_length goes_on l) l)
name_run [] some = absurd (omega (arith, some))
name_run (b ∷ l) some =
    elim (goes_on b) as (λ t. goes_on b ≡ t → 0 < (if t then run_length goes_on l + 1 else 0) → Run goes_on goes_on (take (if t then run_length goes_on l + 1 else 0) (b ∷ l))) [
      | true ↦ λ is. λ more. let size : run_length goes_on l + 1 ≡ suc (run_length goes_on l) = omega arith in subst (λ n. Run goes_on goes_on (take n (b ∷ l))) (sym size) (is, run_passes goes_on l)
      | false ↦ λ is. λ more. absurd (omega (arith, more))
    ] refl some

numeral_by : (bs : List ℕ) (k : Kind) (n : ℕ) → IsLongestLiteral bs k n → FoundIs digit_class bs (with_behind (found k n) bs)
numeral_by bs k n lit =
    elim (nat_lt n (run_end goes_on n bs)) as (λ t. nat_lt n (run_end goes_on n bs) ≡ t → FoundIs digit_class bs (if t then found outside (run_end goes_on n bs) else found k n)) [
      | true ↦ λ e.
          let l = drop n bs in
          let m = run_length goes_on l in
          let v = take m l in
          let some : 0 < m = omega (arith, ltb-true n (run_end goes_on n bs) e) in
          let u = lit.spelled in
          let tail_is : lit.rest ≡ l = sym (drop-append_seam u lit.rest) ∙ ap (λ j. drop j (u ++ lit.rest)) (sym lit.size) ∙ ap (λ (x : List ℕ). drop n x) (sym lit.whole) in
          let whole : bs ≡ (u ++ v) ++ drop m l = lit.whole ∙ ap (λ (x : List ℕ). u ++ x) (tail_is ∙ sym (take-append-drop m l)) ∙ sym (append_assoc u v (drop m l)) in
          let size : n + m ≡ length (u ++ v) = omega (arith, lit.size, length-append u v, run_le goes_on l, length-take m l) in
          is_spelled (plainly digit_class bs (u ++ v) (drop m l) outside (run_end goes_on n bs) whole size (a_broken_numeral u v lit.literal (name_run l some) (λ again. omega (arith, lit.longest (u ++ v) (drop m l) whole again, size))) (numeral_longest bs k n lit))
      | false ↦ λ e. is_spelled (plainly digit_class bs lit.spelled lit.rest k n lit.whole lit.size (lit.spells lit.rest) (λ front behind whole of. omega (arith, numeral_longest bs k n lit front behind whole of, ltb-false n (run_end goes_on n bs) e)))
    ] refl

pub numeral_is : (bs : List ℕ) → is_digit (get_or bs 0 0) ≡ true → FoundIs digit_class bs (numeral_found bs)
unfolding numeral_found
numeral_is bs is =
    let there = literal_there bs is in
    subst (λ (f : Found). FoundIs digit_class bs (with_behind f bs)) (sym there.2) (numeral_by bs there.0 there.1 there.3)
