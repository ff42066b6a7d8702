-- How far a numeral is looked at.
use Rattle.std.proofs.Common.{◌≡◌, ◌+◌, ◌≤◌, ◌<◌, ◌∷◌, [], ℕ, List, Bool, true, false, take, drop, get_or, sym, subst, ap, ◌∙◌, arith, refl, inl, inr}
use Rattle.std.specs.Prelude.{if◌then◌else◌, ◌==◌, ◌&&◌, ◌||◌, nat_lt}
use Rattle.std.proofs.lemmas.List.{get_or-drop}
use Rattle.std.proofs.lemmas.Bool.{and_parts, and_from, eqb-true, eq-eqb, cases_lt, cases_Bool}
use Rattle.std.proofs.lemmas.Bool.Decides.{nat_tests}
use Rattle.token_model.specs.Kinds.{int, float, outside}
use Rattle.token_model.specs.Bytes.{is_digit, is_decimal, is_digit_of, goes_on}
use Rattle.ml_lexer.specs.Scans.{Found, found, run_length, run_end, is_based, based_end, is_e, is_plus_or_minus, fraction_end, exponent_end, literal_found, with_behind, numeral_found}
use Rattle.ml_lexer.specs.Reaches.{behind_reach, numeral_reach}
use Rattle.ml_lexer.proofs.SpelledMarks.{size_of}
use Rattle.ml_lexer.proofs.SpelledNumerals.{digit_is_decimal}
use Rattle.ml_lexer.proofs.Agree.{agree_get, agree_end, Keeps, Steady, byte_keeps}
use Rattle.ml_lexer.proofs.SteadyTicks.{first_passes, first_fails}

-- the byte at a place is the first from there on
pub there : (p : ℕ) (l : List ℕ) → get_or (drop p l) 0 0 ≡ get_or l p 0
there p l = let same : p + 0 ≡ p = omega arith in get_or-drop p l 0 0 ∙ ap (λ k. get_or l k 0) same

-- an `e` and a sign behind a literal
abbrev wants_more : ℕ → List ℕ → Bool
wants_more n l = run_end goes_on n l == n + 1 && is_e (get_or l n 0) && is_plus_or_minus (get_or l (n + 1) 0)

-- the byte behind the identifier characters is looked at
pub behind_least : (f : Found) (l : List ℕ) → run_end goes_on f.size l + 1 ≤ behind_reach f l
behind_least f l = elim (wants_more f.size l) as (λ t. wants_more f.size l ≡ t → run_end goes_on f.size l + 1 ≤ (if t then f.size + 3 else run_end goes_on f.size l + 1)) [
  | true ↦ λ is.
      let parts = and_parts (run_end goes_on f.size l == f.size + 1 && is_e (get_or l f.size 0)) (is_plus_or_minus (get_or l (f.size + 1) 0)) is in
      omega (arith, eqb-true (run_end goes_on f.size l) (f.size + 1) (and_parts (run_end goes_on f.size l == f.size + 1) (is_e (get_or l f.size 0)) parts.0).0)
  | false ↦ λ is. omega arith
] refl

-- what stands behind a literal is the same
wants_keeps : (n r : ℕ) (bs : List ℕ) → run_end goes_on n bs < r → Keeps (wants_more n) r bs
wants_keeps n r bs h cs e =
    ap (λ k. k == n + 1 && is_e (get_or cs n 0) && is_plus_or_minus (get_or cs (n + 1) 0)) (agree_end goes_on n r bs cs e h)
    ∙ elim (run_end goes_on n bs == n + 1) as (λ t. (run_end goes_on n bs == n + 1) ≡ t → (t && is_e (get_or cs n 0) && is_plus_or_minus (get_or cs (n + 1) 0)) ≡ (t && is_e (get_or bs n 0) && is_plus_or_minus (get_or bs (n + 1) 0))) [
      | true ↦ λ is.
          let next : run_end goes_on n bs ≡ n + 1 = eqb-true (run_end goes_on n bs) (n + 1) is in
          ap (λ t. t && is_plus_or_minus (get_or cs (n + 1) 0)) (byte_keeps is_e n r bs (omega arith) cs e) ∙ ap (λ t. is_e (get_or bs n 0) && t) (byte_keeps is_plus_or_minus (n + 1) r bs (omega arith) cs e)
      | false ↦ λ is. refl
    ] refl

-- what the identifier characters make of a literal is the same
behind_steady : (f : Found) (bs cs : List ℕ) → take (behind_reach f bs) bs ≡ take (behind_reach f bs) cs → (with_behind f cs ≡ with_behind f bs) × (behind_reach f cs ≡ behind_reach f bs)
behind_steady f bs cs e =
    let r = behind_reach f bs in
    let least : run_end goes_on f.size bs < r = omega (arith, behind_least f bs) in
    let same = agree_end goes_on f.size r bs cs e least in (
      ap (λ k. if nat_lt f.size k then found outside k else f) same,
      ap (λ t. if t then f.size + 3 else run_end goes_on f.size cs + 1) (wants_keeps f.size r bs least cs e) ∙ ap (λ k. if wants_more f.size bs then f.size + 3 else k + 1) same,
    )

-- the letters of the bases
abbrev is_base : ℕ → Bool
is_base x = x == 120 || x == 88 || x == 111 || x == 79 || x == 98 || x == 66

-- the letter of a base goes on a name
base_letter : (x : ℕ) → is_base x ≡ true → goes_on x ≡ true
base_letter x is = grind (arith, nat_tests)

-- no other byte names a base
no_base : (x b : ℕ) → is_base x ≡ false → is_digit_of x b ≡ false
no_base x b is = grind (arith, nat_tests)

-- the letter of an exponent goes on a name
e_goes_on : (b : ℕ) → is_e b ≡ true → goes_on b ≡ true
e_goes_on b is = grind (arith, nat_tests)

-- a sign of an exponent ends a name, and is no digit
sign_ends : (b : ℕ) → is_plus_or_minus b ≡ true → (goes_on b ≡ false) × (is_digit b ≡ false)
sign_ends b is = (grind (arith, nat_tests), grind (arith, nat_tests))

-- a run of more than a byte, and of just one
run_one : (test : ℕ → Bool) (p : ℕ) (l : List ℕ) → test 0 ≡ false → test (get_or l p 0) ≡ true → p + 1 ≤ run_end test p l
run_one test p l none is = omega (arith, first_passes test (drop p l) none (ap test (there p l) ∙ is))

-- a run that the second byte ends has at most a byte
just_one : (test : ℕ → Bool) (l : List ℕ) → test (get_or l 1 0) ≡ false → run_length test l ≤ 1
just_one test [] is = omega arith
just_one test (b ∷ l) is =
    let none = first_fails test l is in
    elim (test b) as (λ t. (if t then run_length test l + 1 else 0) ≤ 1) [ true ↦ omega arith | false ↦ omega arith ]

-- the end of the digits, of a fraction and of an exponent
abbrev digits_end : List ℕ → ℕ
digits_end l = run_end is_decimal 0 l

abbrev point_end : List ℕ → ℕ
point_end l = fraction_end (digits_end l) l

abbrev decimal_end : List ℕ → ℕ
decimal_end l = exponent_end (point_end l) l

abbrev based : List ℕ → Found
based l = found int (based_end (get_or l 1 0) l)

abbrev decimals : List ℕ → Found
decimals l = if decimal_end l == digits_end l then found int (digits_end l) else found float (decimal_end l)

-- a decimal literal ends where its exponent does
decimals_size : (l : List ℕ) → (decimals l).size ≡ decimal_end l
decimals_size l = elim (decimal_end l == digits_end l) as (λ t. (decimal_end l == digits_end l) ≡ t → size_of (if t then found int (digits_end l) else found float (decimal_end l)) ≡ decimal_end l) [
  | true ↦ λ is. sym (eqb-true (decimal_end l) (digits_end l) is)
  | false ↦ λ is. refl
] refl

-- an exponent by its tests: `e`, a digit, a sign, and a digit behind the sign
abbrev expo : Bool → Bool → Bool → Bool → ℕ → ℕ → ℕ → ℕ
expo t d m f x y p = if t && d then x else (if t && m && f then y else p)

-- an exponent is the same where its tests are, as far as each is asked
expo_same : (t d m f : Bool) (x y p : ℕ) (s c n g : Bool) (u v : ℕ) → s ≡ t → (t ≡ true → (c ≡ d) × (n ≡ m)) → (t ≡ true → d ≡ false → m ≡ true → g ≡ f) → (t ≡ true → d ≡ true → u ≡ x) → (t ≡ true → d ≡ false → m ≡ true → f ≡ true → v ≡ y)
    → expo s c n g u v p ≡ expo t d m f x y p
expo_same false d m f x y p s c n g u v e two third run later = ap (λ t. expo t c n g u v p) e
expo_same true true m f x y p s c n g u v e two third run later = ap (λ t. expo t c n g u v p) e ∙ ap (λ t. expo true t n g u v p) (two refl).0 ∙ run refl refl
expo_same true false false f x y p s c n g u v e two third run later = ap (λ t. expo t c n g u v p) e ∙ ap (λ t. expo true t n g u v p) (two refl).0 ∙ ap (λ t. expo true false t g u v p) (two refl).1
expo_same true false true true x y p s c n g u v e two third run later = ap (λ t. expo t c n g u v p) e ∙ ap (λ t. expo true t n g u v p) (two refl).0 ∙ ap (λ t. expo true false t g u v p) (two refl).1 ∙ ap (λ t. expo true false true t u v p) (third refl refl refl) ∙ later refl refl refl refl
expo_same true false true false x y p s c n g u v e two third run later = ap (λ t. expo t c n g u v p) e ∙ ap (λ t. expo true t n g u v p) (two refl).0 ∙ ap (λ t. expo true false t g u v p) (two refl).1 ∙ ap (λ t. expo true false true t u v p) (third refl refl refl)

-- an exponent ends at the place or behind it, and behind a sign two bytes on
expo_long : (p : ℕ) (l : List ℕ) → p ≤ exponent_end p l
expo_long p l = least (is_e (get_or l p 0)) (is_digit (get_or l (p + 1) 0)) (is_plus_or_minus (get_or l (p + 1) 0)) (is_digit (get_or l (p + 2) 0))
  where
    least : (t d m f : Bool) → p ≤ expo t d m f (run_end is_decimal (p + 1) l) (run_end is_decimal (p + 2) l) p
    least false d m f = omega arith
    least true true m f = omega arith
    least true false false f = omega arith
    least true false true true = omega arith
    least true false true false = omega arith

-- an exponent without a digit behind the `e` has two bytes before its digits
no_digit_long : (p : ℕ) (l : List ℕ) → is_digit (get_or l (p + 1) 0) ≡ false → p < exponent_end p l → p + 2 ≤ exponent_end p l
no_digit_long p l none = subst (λ d. p < expo (is_e (get_or l p 0)) d (is_plus_or_minus (get_or l (p + 1) 0)) (is_digit (get_or l (p + 2) 0)) (run_end is_decimal (p + 1) l) (run_end is_decimal (p + 2) l) p
    → p + 2 ≤ expo (is_e (get_or l p 0)) d (is_plus_or_minus (get_or l (p + 1) 0)) (is_digit (get_or l (p + 2) 0)) (run_end is_decimal (p + 1) l) (run_end is_decimal (p + 2) l) p) (sym none) (least (is_e (get_or l p 0)) (is_plus_or_minus (get_or l (p + 1) 0)) (is_digit (get_or l (p + 2) 0)))
  where
    least : (t m f : Bool) → p < expo t false m f (run_end is_decimal (p + 1) l) (run_end is_decimal (p + 2) l) p → p + 2 ≤ expo t false m f (run_end is_decimal (p + 1) l) (run_end is_decimal (p + 2) l) p
    least false m f h = absurd (omega (arith, h))
    least true false f h = absurd (omega (arith, h))
    least true true true h = omega arith
    least true true false h = absurd (omega (arith, h))

-- a fraction ends at its place or behind
fraction_long : (p : ℕ) (l : List ℕ) → p ≤ fraction_end p l
fraction_long p l = elim (get_or l p 0 == 46) as (λ t. p ≤ (if t then run_end is_decimal (p + 1) l else p)) [ true ↦ omega arith | false ↦ omega arith ]

-- a fraction that ends before the reach is the same
fraction_keeps : (p r : ℕ) (bs : List ℕ) → fraction_end p bs < r → Keeps (fraction_end p) r bs
fraction_keeps p r bs h cs e = elim (get_or bs p 0 == 46) as (λ t. (get_or bs p 0 == 46) ≡ t → (if t then run_end is_decimal (p + 1) bs else p) < r → fraction_end p cs ≡ (if t then run_end is_decimal (p + 1) bs else p)) [
  | true ↦ λ is. λ h. ap (λ t. if t then run_end is_decimal (p + 1) cs else p) (byte_keeps (λ b. b == 46) p r bs (omega (arith, h)) cs e ∙ is) ∙ agree_end is_decimal (p + 1) r bs cs e h
  | false ↦ λ is. λ h. ap (λ t. if t then run_end is_decimal (p + 1) cs else p) (byte_keeps (λ b. b == 46) p r bs h cs e ∙ is)
] refl h

-- an exponent that ends before the reach is the same, where behind an `e` one byte more is looked at, and behind a sign two
exponent_keeps : (p r : ℕ) (bs : List ℕ) → exponent_end p bs < r → (is_e (get_or bs p 0) ≡ true → p + 1 < r) → (is_e (get_or bs p 0) ≡ true → is_plus_or_minus (get_or bs (p + 1) 0) ≡ true → p + 2 < r) → Keeps (exponent_end p) r bs
exponent_keeps p r bs h one two cs e =
    let t = is_e (get_or bs p 0) in
    let d = is_digit (get_or bs (p + 1) 0) in
    let m = is_plus_or_minus (get_or bs (p + 1) 0) in
    let f = is_digit (get_or bs (p + 2) 0) in
    let x = run_end is_decimal (p + 1) bs in
    let y = run_end is_decimal (p + 2) bs in
    let less : p < r = omega (arith, h, expo_long p bs) in
    expo_same t d m f x y p (is_e (get_or cs p 0)) (is_digit (get_or cs (p + 1) 0)) (is_plus_or_minus (get_or cs (p + 1) 0)) (is_digit (get_or cs (p + 2) 0)) (run_end is_decimal (p + 1) cs) (run_end is_decimal (p + 2) cs)
    (byte_keeps is_e p r bs less cs e)
    (λ is. (byte_keeps is_digit (p + 1) r bs (one is) cs e, byte_keeps is_plus_or_minus (p + 1) r bs (one is) cs e))
    (λ is _ sign. byte_keeps is_digit (p + 2) r bs (two is sign) cs e)
    (λ is digit. agree_end is_decimal (p + 1) r bs cs e (subst (λ k. k < r) (ap (λ b. expo b d m f x y p) is ∙ ap (λ b. expo true b m f x y p) digit) h))
    (λ is other sign digit. agree_end is_decimal (p + 2) r bs cs e (subst (λ k. k < r) (ap (λ b. expo b d m f x y p) is ∙ ap (λ b. expo true b m f x y p) other ∙ ap (λ b. expo true false b f x y p) sign ∙ ap (λ b. expo true false true b x y p) digit) h))

-- a literal of a base is the same
based_keeps : (bs : List ℕ) → is_based bs ≡ true → (cs : List ℕ) → take (behind_reach (based bs) bs) bs ≡ take (behind_reach (based bs) bs) cs → (is_based cs ≡ true) × (based cs ≡ based bs)
based_keeps bs is cs e =
    let r = behind_reach (based bs) bs in
    let letter = get_or bs 1 0 in
    let least : based_end letter bs < r = omega (arith, behind_least (based bs) bs) in
    let b0 = agree_get r 0 bs cs (omega (arith, least)) e in
    let b1 = agree_get r 1 bs cs (omega (arith, least)) e in
    let b2 = agree_get r 2 bs cs (omega (arith, least)) e in (
      ap (λ b. b == 48 && is_digit_of (get_or cs 1 0) (get_or cs 2 0)) b0 ∙ ap (λ b. get_or bs 0 0 == 48 && is_digit_of b (get_or cs 2 0)) b1 ∙ ap (λ b. get_or bs 0 0 == 48 && is_digit_of letter b) b2 ∙ is,
      ap (λ b. found int (based_end b cs)) b1 ∙ ap (λ k. found int k) (agree_end (λ b. is_digit_of letter b || b == 95) 2 r bs cs e least),
    )

-- a decimal literal is the same
decimals_keep : (bs : List ℕ) → is_digit (get_or bs 0 0) ≡ true → is_based bs ≡ false → (cs : List ℕ) → take (behind_reach (decimals bs) bs) bs ≡ take (behind_reach (decimals bs) bs) cs → (is_based cs ≡ false) × (decimals cs ≡ decimals bs)
decimals_keep bs first is cs e =
    let r = behind_reach (decimals bs) bs in
    let n = (decimals bs).size in
    let last = run_end goes_on n bs in
    let least : last + 1 ≤ r = behind_least (decimals bs) bs in
    let size : n ≡ decimal_end bs = decimals_size bs in
    let p = point_end bs in
    let some : 0 < run_length is_decimal bs = first_passes is_decimal bs refl (digit_is_decimal (get_or bs 0 0) first) in
    let order : (digits_end bs ≤ p) × (p ≤ n) = (fraction_long (digits_end bs) bs, omega (arith, expo_long p bs, size)) in
    let b0 = agree_get r 0 bs cs (omega (arith, some)) e in
    let b1 = agree_get r 1 bs cs (omega (arith, some)) e in
    let not_based : is_based cs ≡ false = elim (cases_Bool (is_base (get_or bs 1 0))) [
      | inl letter ↦
          let long : 2 ≤ last = long_name bs n (omega (arith, some)) (base_letter (get_or bs 1 0) letter) in
          let b2 = agree_get r 2 bs cs (omega (arith, long)) e in
          ap (λ b. b == 48 && is_digit_of (get_or cs 1 0) (get_or cs 2 0)) b0 ∙ ap (λ b. get_or bs 0 0 == 48 && is_digit_of b (get_or cs 2 0)) b1 ∙ ap (λ b. get_or bs 0 0 == 48 && is_digit_of (get_or bs 1 0) b) b2 ∙ is
      | inr other ↦ ap (λ b. get_or cs 0 0 == 48 && is_digit_of b (get_or cs 2 0)) b1 ∙ ap (λ t. get_or cs 0 0 == 48 && t) (no_base (get_or bs 1 0) (get_or cs 2 0) other) ∙ and_off (get_or cs 0 0 == 48)
    ] in
    let one : is_e (get_or bs p 0) ≡ true → p + 1 < r = λ letter. elim (cases_lt p n) [
      | inl more ↦ omega (arith, more)
      | inr none ↦
          let here : n ≡ p = omega (arith, none) in
          omega (arith, run_one goes_on p bs refl (e_goes_on (get_or bs p 0) letter), ap (λ k. run_end goes_on k bs) here)
    ] in
    let two : is_e (get_or bs p 0) ≡ true → is_plus_or_minus (get_or bs (p + 1) 0) ≡ true → p + 2 < r = λ letter sign. elim (cases_lt p n) [
      | inl more ↦ omega (arith, no_digit_long p bs (sign_ends (get_or bs (p + 1) 0) sign).1 (omega (arith, more, size)), size)
      | inr none ↦
          let here : n ≡ p = omega (arith, none) in
          let stop : get_or (drop p bs) 1 0 ≡ get_or bs (p + 1) 0 = get_or-drop p bs 1 0 in
          let short = just_one goes_on (drop p bs) (ap goes_on stop ∙ (sign_ends (get_or bs (p + 1) 0) sign).0) in
          let just : run_end goes_on p bs ≡ p + 1 = omega (arith, short, run_one goes_on p bs refl (e_goes_on (get_or bs p 0) letter)) in
          let wants : wants_more n bs ≡ true = ap (λ k. wants_more k bs) here ∙ and_from (run_end goes_on p bs == p + 1 && is_e (get_or bs p 0)) (is_plus_or_minus (get_or bs (p + 1) 0)) (and_from (run_end goes_on p bs == p + 1) (is_e (get_or bs p 0)) (eq-eqb (run_end goes_on p bs) (p + 1) just) letter) sign in
          let reach : r ≡ n + 3 = ap (λ t. if t then n + 3 else run_end goes_on n bs + 1) wants in
          omega (arith, reach, here)
    ] in
    let digits : digits_end cs ≡ digits_end bs = agree_end is_decimal 0 r bs cs e (omega (arith, order.0, order.1)) in
    let point : point_end cs ≡ p = ap (λ k. fraction_end k cs) digits ∙ fraction_keeps (digits_end bs) r bs (omega (arith, order.1)) cs e in
    let whole : decimal_end cs ≡ decimal_end bs = ap (λ k. exponent_end k cs) point ∙ exponent_keeps p r bs (omega (arith, size)) one two cs e in (
      not_based,
      ap (λ k. if k == digits_end cs then found int (digits_end cs) else found float k) whole ∙ ap (λ k. if decimal_end bs == k then found int k else found float (decimal_end bs)) digits,
    )
  where
    and_off : (t : Bool) → (t && false) ≡ false
    and_off true = refl
    and_off false = refl

    -- a name that goes on at the second byte has two
    long_name : (l : List ℕ) (k : ℕ) → 1 ≤ k → goes_on (get_or l 1 0) ≡ true → 2 ≤ run_end goes_on k l
    long_name l k some on = elim (cases_lt 1 k) [
      | inl more ↦ omega arith
      | inr none ↦
          let one : k ≡ 1 = omega arith in
          omega (arith, run_one goes_on 1 l refl on, ap (λ j. run_end goes_on j l) one)
    ]

-- the literal is the same
literal_keeps : (bs : List ℕ) → is_digit (get_or bs 0 0) ≡ true → Keeps literal_found (behind_reach (literal_found bs) bs) bs
unfolding literal_found
literal_keeps bs first cs =
    elim (is_based bs) as (λ t. is_based bs ≡ t → take (behind_reach (if t then based bs else decimals bs) bs) bs ≡ take (behind_reach (if t then based bs else decimals bs) bs) cs → (if is_based cs then based cs else decimals cs) ≡ (if t then based bs else decimals bs)) [
      | true ↦ λ is. λ e. let x = based_keeps bs is cs e in ap (λ t. if t then based cs else decimals cs) x.0 ∙ x.1
      | false ↦ λ is. λ e. let x = decimals_keep bs first is cs e in ap (λ t. if t then based cs else decimals cs) x.0 ∙ x.1
    ] refl

-- what begins with a digit
pub numeral_steady : (bs : List ℕ) → is_digit (get_or bs 0 0) ≡ true → Steady numeral_found numeral_reach bs
unfolding numeral_found numeral_reach
numeral_steady bs first cs e =
    let same = literal_keeps bs first cs e in
    let x = behind_steady (literal_found bs) bs cs e in
    (ap (λ (f : Found). with_behind f cs) same ∙ x.0, ap (λ (f : Found). behind_reach f cs) same ∙ x.1)
