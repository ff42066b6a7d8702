-- Character literals: where a scan finds one, it is spelled, and the other way round.
use Rattle.std.proofs.Common.{◌≡◌, ◌≤◌, ◌<◌, ◌++◌, ◌∷◌, [], ℕ, zero, suc, List, true, false, drop, length, get_or, arith, refl, ap, ◌∙◌}
use Rattle.std.specs.Prelude.{if◌then◌else◌, ◌&&◌, ◌==◌, nat_lt}
use Rattle.std.proofs.lemmas.Bool.{and_parts, and_from, eqb-true, both_ways}
use Rattle.std.proofs.lemmas.Bool.Decides.{nat_tests}
use Rattle.token_model.specs.Bytes.{is_digit, is_hexadecimal, is_octal}
use Rattle.token_model.specs.Spellings.{is_plain, is_escaped, IsChar, plain, escape, decimal_code, hexadecimal_code, octal_code}
use Rattle.ml_lexer.specs.Scans.{char_size, escape_size}

pub plain_not : (c : ℕ) → is_plain c ≡ true → (c == 92) ≡ false
plain_not c is = grind (arith, nat_tests)

digit_not_escaped : (c : ℕ) → is_digit c ≡ true → is_escaped c ≡ false
digit_not_escaped c is = grind (arith, nat_tests)

-- a character literal is found
pub char_size_is : (w rest : List ℕ) → IsChar w → char_size (w ++ rest) ≡ length w
unfolding char_size escape_size
char_size_is w rest (plain {c = c} is) = ap (λ t. if t then escape_size (39 ∷ c ∷ 39 ∷ rest) else (if is_plain c && true then 3 else 0)) (plain_not c is) ∙ ap (λ t. if t && true then 3 else 0) is
char_size_is w rest (escape {c = c} is) = ap (λ t. if t && true then 4 else (if is_digit c && is_digit 39 && is_digit (get_or rest 0 0) && get_or rest 1 0 == 39 then 6 else (if c == 120 && is_hexadecimal 39 && is_hexadecimal (get_or rest 0 0) && get_or rest 1 0 == 39 then 6 else (if c == 111 && is_octal 39 && nat_lt 39 52 && is_octal (get_or rest 0 0) && is_octal (get_or rest 1 0) && get_or rest 2 0 == 39 then 7 else 0)))) is
char_size_is w rest (decimal_code {a = a} {b = b} {c = c} is) =
    let ab = and_parts (is_digit a && is_digit b) (is_digit c) is in
    let parts = and_parts (is_digit a) (is_digit b) ab.0 in
    ap (λ t. if t && b == 39 then 4 else (if is_digit a && is_digit b && is_digit c && true then 6 else (if a == 120 && is_hexadecimal b && is_hexadecimal c && true then 6 else (if a == 111 && is_octal b && nat_lt b 52 && is_octal c && is_octal 39 && get_or rest 0 0 == 39 then 7 else 0)))) (digit_not_escaped a parts.0)
    ∙ ap (λ t. if t && true then 6 else (if a == 120 && is_hexadecimal b && is_hexadecimal c && true then 6 else (if a == 111 && is_octal b && nat_lt b 52 && is_octal c && is_octal 39 && get_or rest 0 0 == 39 then 7 else 0))) is
char_size_is w rest (hexadecimal_code {a = a} {b = b} is) = ap (λ t. if t && true then 6 else (if 120 == 111 && is_octal a && nat_lt a 52 && is_octal b && is_octal 39 && get_or rest 0 0 == 39 then 7 else 0)) is
char_size_is w rest (octal_code {a = a} {b = b} {c = c} is) = ap (λ t. if t && true then 7 else 0) is

-- bytes that are there
split3 : (bs : List ℕ) → 3 ≤ length bs → bs ≡ get_or bs 0 0 ∷ get_or bs 1 0 ∷ get_or bs 2 0 ∷ drop 3 bs
split3 (a ∷ b ∷ c ∷ bs) long = refl
split3 [] long = absurd (omega arith)
split3 (a ∷ []) long = absurd (omega arith)
split3 (a ∷ b ∷ []) long = absurd (omega arith)

there : (bs : List ℕ) (n : ℕ) → get_or bs n 0 ≡ 39 → n < length bs
there [] n is = absurd (omega (arith, is))
there (b ∷ bs) zero is = omega arith
there (b ∷ bs) (suc n) is = omega (arith, there bs n is)

-- a character literal at the front of some bytes, of a size
abbrev pub HasChar : List ℕ → ℕ → Type 0
HasChar bs n = (w : List ℕ) × (rest : List ℕ) × (bs ≡ w ++ rest) × (IsChar w) × (n ≡ length w)

plain_found : (bs : List ℕ) → get_or bs 0 0 ≡ 39 → (is_plain (get_or bs 1 0) && get_or bs 2 0 == 39) ≡ true → HasChar bs 3
plain_found [] is test = absurd (omega (arith, is))
plain_found (a ∷ []) is test = absurd (both_ways (is_plain 0 && 0 == 39) refl test)
plain_found (a ∷ b ∷ []) is test = absurd (both_ways (0 == 39) refl (and_parts (is_plain b) (0 == 39) test).1)
plain_found (a ∷ b ∷ c ∷ bs) is test =
    let parts = and_parts (is_plain b) (c == 39) test in
    (39 ∷ b ∷ 39 ∷ [], bs, ap (λ x. x ∷ b ∷ c ∷ bs) is ∙ ap (λ x. 39 ∷ b ∷ x ∷ bs) (eqb-true c 39 parts.1), plain parts.0, refl)

escape_found4 : (a b c d : ℕ) (bs : List ℕ) → a ≡ 39 → b ≡ 92 → (is_escaped c && d == 39) ≡ true → HasChar (a ∷ b ∷ c ∷ d ∷ bs) 4
escape_found4 a b c d bs is back test =
    let parts = and_parts (is_escaped c) (d == 39) test in
    (39 ∷ 92 ∷ c ∷ 39 ∷ [], bs, ap (λ x. x ∷ b ∷ c ∷ d ∷ bs) is ∙ ap (λ x. 39 ∷ x ∷ c ∷ d ∷ bs) back ∙ ap (λ x. 39 ∷ 92 ∷ c ∷ x ∷ bs) (eqb-true d 39 parts.1), escape parts.0, refl)

decimal_found : (a b c d e f : ℕ) (bs : List ℕ) → a ≡ 39 → b ≡ 92 → (is_digit c && is_digit d && is_digit e && f == 39) ≡ true → HasChar (a ∷ b ∷ c ∷ d ∷ e ∷ f ∷ bs) 6
decimal_found a b c d e f bs is back test =
    let parts = and_parts (is_digit c && is_digit d && is_digit e) (f == 39) test in
    (39 ∷ 92 ∷ c ∷ d ∷ e ∷ 39 ∷ [], bs, ap (λ x. x ∷ b ∷ c ∷ d ∷ e ∷ f ∷ bs) is ∙ ap (λ x. 39 ∷ x ∷ c ∷ d ∷ e ∷ f ∷ bs) back ∙ ap (λ x. 39 ∷ 92 ∷ c ∷ d ∷ e ∷ x ∷ bs) (eqb-true f 39 parts.1), decimal_code parts.0, refl)

hexadecimal_found : (a b c d e f : ℕ) (bs : List ℕ) → a ≡ 39 → b ≡ 92 → (c == 120 && is_hexadecimal d && is_hexadecimal e && f == 39) ≡ true → HasChar (a ∷ b ∷ c ∷ d ∷ e ∷ f ∷ bs) 6
hexadecimal_found a b c d e f bs is back test =
    let parts = and_parts (c == 120 && is_hexadecimal d && is_hexadecimal e) (f == 39) test in
    let left = and_parts (c == 120 && is_hexadecimal d) (is_hexadecimal e) parts.0 in
    let first = and_parts (c == 120) (is_hexadecimal d) left.0 in
    (39 ∷ 92 ∷ 120 ∷ d ∷ e ∷ 39 ∷ [], bs, ap (λ x. x ∷ b ∷ c ∷ d ∷ e ∷ f ∷ bs) is ∙ ap (λ x. 39 ∷ x ∷ c ∷ d ∷ e ∷ f ∷ bs) back ∙ ap (λ x. 39 ∷ 92 ∷ x ∷ d ∷ e ∷ f ∷ bs) (eqb-true c 120 first.0) ∙ ap (λ x. 39 ∷ 92 ∷ 120 ∷ d ∷ e ∷ x ∷ bs) (eqb-true f 39 parts.1), hexadecimal_code (and_from (is_hexadecimal d) (is_hexadecimal e) first.1 left.1), refl)

octal_found : (a b c d e f g : ℕ) (bs : List ℕ) → a ≡ 39 → b ≡ 92 → (c == 111 && is_octal d && nat_lt d 52 && is_octal e && is_octal f && g == 39) ≡ true → HasChar (a ∷ b ∷ c ∷ d ∷ e ∷ f ∷ g ∷ bs) 7
octal_found a b c d e f g bs is back test =
    let parts = and_parts (c == 111 && is_octal d && nat_lt d 52 && is_octal e && is_octal f) (g == 39) test in
    let p5 = and_parts (c == 111 && is_octal d && nat_lt d 52 && is_octal e) (is_octal f) parts.0 in
    let p4 = and_parts (c == 111 && is_octal d && nat_lt d 52) (is_octal e) p5.0 in
    let p3 = and_parts (c == 111 && is_octal d) (nat_lt d 52) p4.0 in
    let p2 = and_parts (c == 111) (is_octal d) p3.0 in (
      39 ∷ 92 ∷ 111 ∷ d ∷ e ∷ f ∷ 39 ∷ [],
      bs,
      ap (λ x. x ∷ b ∷ c ∷ d ∷ e ∷ f ∷ g ∷ bs) is ∙ ap (λ x. 39 ∷ x ∷ c ∷ d ∷ e ∷ f ∷ g ∷ bs) back ∙ ap (λ x. 39 ∷ 92 ∷ x ∷ d ∷ e ∷ f ∷ g ∷ bs) (eqb-true c 111 p2.0) ∙ ap (λ x. 39 ∷ 92 ∷ 111 ∷ d ∷ e ∷ f ∷ x ∷ bs) (eqb-true g 39 parts.1),
      octal_code (and_from (is_octal d && nat_lt d 52 && is_octal e) (is_octal f) (and_from (is_octal d && nat_lt d 52) (is_octal e) (and_from (is_octal d) (nat_lt d 52) p2.1 p3.1) p4.1) p5.1),
      refl,
    )

-- the size of an escape that is a number, by the bytes behind its first
abbrev octals : ℕ → ℕ → List ℕ → ℕ
octals c d l = if c == 111 && is_octal d && nat_lt d 52 && is_octal (get_or l 0 0) && is_octal (get_or l 1 0) && get_or l 2 0 == 39 then 7 else 0

abbrev hexadecimals : ℕ → ℕ → List ℕ → ℕ
hexadecimals c d l = if c == 120 && is_hexadecimal d && is_hexadecimal (get_or l 0 0) && get_or l 1 0 == 39 then 6 else octals c d l

abbrev numbers : ℕ → ℕ → List ℕ → ℕ
numbers c d l = if is_digit c && is_digit d && is_digit (get_or l 0 0) && get_or l 1 0 == 39 then 6 else hexadecimals c d l

octals_at : (a b c d : ℕ) (bs : List ℕ) → a ≡ 39 → b ≡ 92 → (c == 111 && is_octal d && nat_lt d 52 && is_octal (get_or bs 0 0) && is_octal (get_or bs 1 0) && get_or bs 2 0 == 39) ≡ true → HasChar (a ∷ b ∷ c ∷ d ∷ bs) 7
octals_at a b c d [] is back test = absurd (both_ways (0 == 39) refl (and_parts (c == 111 && is_octal d && nat_lt d 52 && is_octal 0 && is_octal 0) (0 == 39) test).1)
octals_at a b c d (e ∷ []) is back test = absurd (both_ways (0 == 39) refl (and_parts (c == 111 && is_octal d && nat_lt d 52 && is_octal e && is_octal 0) (0 == 39) test).1)
octals_at a b c d (e ∷ f ∷ []) is back test = absurd (both_ways (0 == 39) refl (and_parts (c == 111 && is_octal d && nat_lt d 52 && is_octal e && is_octal f) (0 == 39) test).1)
octals_at a b c d (e ∷ f ∷ g ∷ bs) is back test = octal_found a b c d e f g bs is back test

hexadecimals_at : (a b c d : ℕ) (bs : List ℕ) → a ≡ 39 → b ≡ 92 → (c == 120 && is_hexadecimal d && is_hexadecimal (get_or bs 0 0) && get_or bs 1 0 == 39) ≡ true → HasChar (a ∷ b ∷ c ∷ d ∷ bs) 6
hexadecimals_at a b c d [] is back test = absurd (both_ways (0 == 39) refl (and_parts (c == 120 && is_hexadecimal d && is_hexadecimal 0) (0 == 39) test).1)
hexadecimals_at a b c d (e ∷ []) is back test = absurd (both_ways (0 == 39) refl (and_parts (c == 120 && is_hexadecimal d && is_hexadecimal e) (0 == 39) test).1)
hexadecimals_at a b c d (e ∷ f ∷ bs) is back test = hexadecimal_found a b c d e f bs is back test

decimals_at : (a b c d : ℕ) (bs : List ℕ) → a ≡ 39 → b ≡ 92 → (is_digit c && is_digit d && is_digit (get_or bs 0 0) && get_or bs 1 0 == 39) ≡ true → HasChar (a ∷ b ∷ c ∷ d ∷ bs) 6
decimals_at a b c d [] is back test = absurd (both_ways (0 == 39) refl (and_parts (is_digit c && is_digit d && is_digit 0) (0 == 39) test).1)
decimals_at a b c d (e ∷ []) is back test = absurd (both_ways (0 == 39) refl (and_parts (is_digit c && is_digit d && is_digit e) (0 == 39) test).1)
decimals_at a b c d (e ∷ f ∷ bs) is back test = decimal_found a b c d e f bs is back test

octals_or : (a b c d : ℕ) (bs : List ℕ) → a ≡ 39 → b ≡ 92 → 0 < octals c d bs → HasChar (a ∷ b ∷ c ∷ d ∷ bs) (octals c d bs)
octals_or a b c d bs is back some =
    elim (c == 111 && is_octal d && nat_lt d 52 && is_octal (get_or bs 0 0) && is_octal (get_or bs 1 0) && get_or bs 2 0 == 39) as (λ t. (c == 111 && is_octal d && nat_lt d 52 && is_octal (get_or bs 0 0) && is_octal (get_or bs 1 0) && get_or bs 2 0 == 39) ≡ t → 0 < (if t then 7 else 0) → HasChar (a ∷ b ∷ c ∷ d ∷ bs) (if t then 7 else 0)) [
      | true ↦ λ test. λ some. octals_at a b c d bs is back test
      | false ↦ λ test. λ some. absurd (omega (arith, some))
    ] refl some

hexadecimals_or : (a b c d : ℕ) (bs : List ℕ) → a ≡ 39 → b ≡ 92 → 0 < hexadecimals c d bs → HasChar (a ∷ b ∷ c ∷ d ∷ bs) (hexadecimals c d bs)
hexadecimals_or a b c d bs is back some =
    elim (c == 120 && is_hexadecimal d && is_hexadecimal (get_or bs 0 0) && get_or bs 1 0 == 39) as (λ t. (c == 120 && is_hexadecimal d && is_hexadecimal (get_or bs 0 0) && get_or bs 1 0 == 39) ≡ t → 0 < (if t then 6 else octals c d bs) → HasChar (a ∷ b ∷ c ∷ d ∷ bs) (if t then 6 else octals c d bs)) [
      | true ↦ λ test. λ some. hexadecimals_at a b c d bs is back test
      | false ↦ λ test. λ some. octals_or a b c d bs is back some
    ] refl some

numbered : (a b c d : ℕ) (bs : List ℕ) → a ≡ 39 → b ≡ 92 → 0 < numbers c d bs → HasChar (a ∷ b ∷ c ∷ d ∷ bs) (numbers c d bs)
numbered a b c d bs is back some =
    elim (is_digit c && is_digit d && is_digit (get_or bs 0 0) && get_or bs 1 0 == 39) as (λ t. (is_digit c && is_digit d && is_digit (get_or bs 0 0) && get_or bs 1 0 == 39) ≡ t → 0 < (if t then 6 else hexadecimals c d bs) → HasChar (a ∷ b ∷ c ∷ d ∷ bs) (if t then 6 else hexadecimals c d bs)) [
      | true ↦ λ test. λ some. decimals_at a b c d bs is back test
      | false ↦ λ test. λ some. hexadecimals_or a b c d bs is back some
    ] refl some

-- what an escape is, by its bytes
escape_at : (a b c d : ℕ) (bs : List ℕ) → a ≡ 39 → b ≡ 92 → 0 < escape_size (a ∷ b ∷ c ∷ d ∷ bs) → HasChar (a ∷ b ∷ c ∷ d ∷ bs) (escape_size (a ∷ b ∷ c ∷ d ∷ bs))
unfolding escape_size
escape_at a b c d bs is back some =
    elim (is_escaped c && d == 39) as (λ t. (is_escaped c && d == 39) ≡ t → 0 < (if t then 4 else numbers c d bs) → HasChar (a ∷ b ∷ c ∷ d ∷ bs) (if t then 4 else numbers c d bs)) [
      | true ↦ λ test. λ some. escape_found4 a b c d bs is back test
      | false ↦ λ test. λ some. numbered a b c d bs is back some
    ] refl some

short2 : (a b : ℕ) → 0 < escape_size (a ∷ b ∷ []) → ⊥
unfolding escape_size
short2 a b some = omega (arith, some)

short3 : (a b c : ℕ) → 0 < escape_size (a ∷ b ∷ c ∷ []) → ⊥
unfolding escape_size
short3 a b c some = grind (arith, nat_tests)

plain_or : (bs : List ℕ) → get_or bs 0 0 ≡ 39 → 0 < (if is_plain (get_or bs 1 0) && get_or bs 2 0 == 39 then 3 else 0) → HasChar bs (if is_plain (get_or bs 1 0) && get_or bs 2 0 == 39 then 3 else 0)
plain_or bs is some =
    elim (is_plain (get_or bs 1 0) && get_or bs 2 0 == 39) as (λ t. (is_plain (get_or bs 1 0) && get_or bs 2 0 == 39) ≡ t → 0 < (if t then 3 else 0) → HasChar bs (if t then 3 else 0)) [
      | true ↦ λ test. λ some. plain_found bs is test
      | false ↦ λ test. λ some. absurd (omega (arith, some))
    ] refl some

escape_found : (bs : List ℕ) → get_or bs 0 0 ≡ 39 → get_or bs 1 0 ≡ 92 → 0 < escape_size bs → HasChar bs (escape_size bs)
escape_found (a ∷ b ∷ c ∷ d ∷ bs) is back some = escape_at a b c d bs is back some
escape_found [] is back some = absurd (omega (arith, is))
escape_found (a ∷ []) is back some = absurd (omega (arith, back))
escape_found (a ∷ b ∷ []) is back some = absurd (short2 a b some)
escape_found (a ∷ b ∷ c ∷ []) is back some = absurd (short3 a b c some)

-- what is found is a character literal
pub char_found : (bs : List ℕ) → get_or bs 0 0 ≡ 39 → 0 < char_size bs → HasChar bs (char_size bs)
unfolding char_size
char_found bs is some =
    elim (get_or bs 1 0 == 92) as (λ t. get_or bs 1 0 == 92 ≡ t → 0 < (if t then escape_size bs else (if is_plain (get_or bs 1 0) && get_or bs 2 0 == 39 then 3 else 0)) → HasChar bs (if t then escape_size bs else (if is_plain (get_or bs 1 0) && get_or bs 2 0 == 39 then 3 else 0))) [
      | true ↦ λ back. λ some. escape_found bs is (eqb-true (get_or bs 1 0) 92 back) some
      | false ↦ λ back. λ some. plain_or bs is some
    ] refl some
