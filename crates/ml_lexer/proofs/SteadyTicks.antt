-- How far what begins with a quote is looked at.
use Rattle.std.proofs.Common.{◌≡◌, ◌+◌, ◌≤◌, ◌<◌, ◌++◌, ◌∷◌, [], ℕ, List, Bool, true, false, take, drop, length, get_or, sym, subst, ap, ◌∙◌, arith, refl, inl, inr, min, max}
use Rattle.std.specs.Prelude.{if◌then◌else◌, ◌==◌, ◌&&◌, nat_lt}
use Rattle.std.proofs.Math.Seq.{take-append_seam}
use Rattle.std.proofs.lemmas.List.{take-append-drop}
use Rattle.std.proofs.lemmas.Bool.{and_parts, lt-ltb, ltb-true, both_ways, false_from_ne_true, cases_lt}
use Rattle.std.proofs.lemmas.Bool.Decides.{nat_tests}
use Rattle.token_model.specs.Kinds.{char, ty_var, junk}
use Rattle.token_model.specs.Bytes.{is_digit, is_hexadecimal, is_octal, begins_name, goes_on, continues}
use Rattle.token_model.specs.Spellings.{is_plain, is_escaped, IsChar, plain, escape, decimal_code, hexadecimal_code, octal_code}
use Rattle.ml_lexer.specs.Scans.{Found, found, run_length, run_end, char_size, stray_found, tick_found}
use Rattle.ml_lexer.specs.Reaches.{hexadecimal_reach, octal_reach, decimal_reach, escape_reach, char_reach, lone_tick_reach, tick_reach}
use Rattle.ml_lexer.proofs.Chars.{plain_not, char_size_is, char_found}
use Rattle.ml_lexer.proofs.Inside.{char_long}
use Rattle.ml_lexer.proofs.Agree.{agree_less, agree_get, agree_end, agree_long, agree_whole, Keeps, Steady, steady_if, byte_keeps, least_if}

-- the two last bytes of a number
abbrev two_hexadecimals : List ℕ → ℕ
two_hexadecimals l = if is_hexadecimal (get_or l 4 0) then 6 else 5

abbrev three_octals : List ℕ → ℕ
three_octals l = if is_octal (get_or l 5 0) then 7 else 6

abbrev two_octals : List ℕ → ℕ
two_octals l = if is_octal (get_or l 4 0) then three_octals l else 5

abbrev two_digits : List ℕ → ℕ
two_digits l = if is_digit (get_or l 4 0) then 6 else 5

-- the byte behind the ones that pass is looked at
two_hexadecimals_least : (l : List ℕ) → 5 ≤ two_hexadecimals l
two_hexadecimals_least l = least_if (is_hexadecimal (get_or l 4 0)) 6 5 5 (omega arith) (omega arith)

-- the same for the third digit of base 8
three_octals_least : (l : List ℕ) → 6 ≤ three_octals l
three_octals_least l = least_if (is_octal (get_or l 5 0)) 7 6 6 (omega arith) (omega arith)

-- the same for the second
two_octals_least : (l : List ℕ) → 5 ≤ two_octals l
two_octals_least l = least_if (is_octal (get_or l 4 0)) (three_octals l) 5 5 (omega (arith, three_octals_least l)) (omega arith)

-- the same for a second decimal digit
two_digits_least : (l : List ℕ) → 5 ≤ two_digits l
two_digits_least l = least_if (is_digit (get_or l 4 0)) 6 5 5 (omega arith) (omega arith)

-- the first byte of a number is looked at
hexadecimal_least : (l : List ℕ) → 4 ≤ hexadecimal_reach l
hexadecimal_least l = least_if (is_hexadecimal (get_or l 3 0)) (two_hexadecimals l) 4 4 (omega (arith, two_hexadecimals_least l)) (omega arith)

-- the same for base 8
octal_least : (l : List ℕ) → 4 ≤ octal_reach l
octal_least l = least_if (is_octal (get_or l 3 0) && nat_lt (get_or l 3 0) 52) (two_octals l) 4 4 (omega (arith, two_octals_least l)) (omega arith)

-- the same for decimal digits
decimal_least : (l : List ℕ) → 4 ≤ decimal_reach l
decimal_least l = least_if (is_digit (get_or l 3 0)) (two_digits l) 4 4 (omega (arith, two_digits_least l)) (omega arith)

-- the tests behind the one for x, and behind the one for o
abbrev from_o : List ℕ → ℕ
from_o l = if get_or l 2 0 == 111 then octal_reach l else (if is_escaped (get_or l 2 0) then 4 else (if is_digit (get_or l 2 0) then decimal_reach l else 3))

abbrev from_escaped : List ℕ → ℕ
from_escaped l = if is_escaped (get_or l 2 0) then 4 else (if is_digit (get_or l 2 0) then decimal_reach l else 3)

abbrev from_digit : List ℕ → ℕ
from_digit l = if is_digit (get_or l 2 0) then decimal_reach l else 3

-- the byte behind the backslash is looked at
from_digit_least : (l : List ℕ) → 3 ≤ from_digit l
from_digit_least l = least_if (is_digit (get_or l 2 0)) (decimal_reach l) 3 3 (omega (arith, decimal_least l)) (omega arith)

-- also before the test for a digit
from_escaped_least : (l : List ℕ) → 3 ≤ from_escaped l
from_escaped_least l = least_if (is_escaped (get_or l 2 0)) 4 (from_digit l) 3 (omega arith) (from_digit_least l)

-- also before the test for an escape
from_o_least : (l : List ℕ) → 3 ≤ from_o l
from_o_least l = least_if (get_or l 2 0 == 111) (octal_reach l) (from_escaped l) 3 (omega (arith, octal_least l)) (from_escaped_least l)

-- also before the test for o
escape_least : (l : List ℕ) → 3 ≤ escape_reach l
escape_least l = least_if (get_or l 2 0 == 120) (hexadecimal_reach l) (from_o l) 3 (omega (arith, hexadecimal_least l)) (from_o_least l)

-- the byte behind the quote is looked at
pub char_reach_least : (l : List ℕ) → 2 ≤ char_reach l
char_reach_least l = least_if (get_or l 1 0 == 92) (escape_reach l) (if is_plain (get_or l 1 0) then 3 else 2) 2 (omega (arith, escape_least l)) (least_if (is_plain (get_or l 1 0)) 3 2 2 (omega arith) (omega arith))

-- a number that a test of a byte chooses is the same
by_byte : (test : ℕ → Bool) (k m n : ℕ) (bs : List ℕ) → k < m → k < n → Steady (λ l. if test (get_or l k 0) then m else n) (λ l. if test (get_or l k 0) then m else n) bs
by_byte test k m n bs p q = steady_if (λ l. test (get_or l k 0)) (λ _. m) (λ _. n) (λ _. m) (λ _. n) bs (λ _. byte_keeps test k m bs p) (λ _. byte_keeps test k n bs q) (λ _. λ cs e. (refl, refl)) (λ _. λ cs e. (refl, refl))

-- and so is a reach that goes on behind the byte, or ends there
by_more : (test : ℕ → Bool) (k n : ℕ) (R : List ℕ → ℕ) (bs : List ℕ) → k < R bs → k < n → Steady R R bs → Steady (λ l. if test (get_or l k 0) then R l else n) (λ l. if test (get_or l k 0) then R l else n) bs
by_more test k n R bs p q more = steady_if (λ l. test (get_or l k 0)) R (λ _. n) R (λ _. n) bs (λ _. byte_keeps test k (R bs) bs p) (λ _. byte_keeps test k n bs q) (λ _. more) (λ _. λ cs e. (refl, refl))

-- and so is one of two reaches that go on behind the byte
by_either : (test : ℕ → Bool) (k : ℕ) (R S : List ℕ → ℕ) (bs : List ℕ) → k < R bs → k < S bs → Steady R R bs → Steady S S bs → Steady (λ l. if test (get_or l k 0) then R l else S l) (λ l. if test (get_or l k 0) then R l else S l) bs
by_either test k R S bs p q first second = steady_if (λ l. test (get_or l k 0)) R S R S bs (λ _. byte_keeps test k (R bs) bs p) (λ _. byte_keeps test k (S bs) bs q) (λ _. first) (λ _. second)

-- the digits of base 16
hexadecimal_steady : (bs : List ℕ) → Steady hexadecimal_reach hexadecimal_reach bs
hexadecimal_steady bs = by_more is_hexadecimal 3 4 two_hexadecimals bs (omega (arith, two_hexadecimals_least bs)) (omega arith) (by_byte is_hexadecimal 4 6 5 bs (omega arith) (omega arith))

-- the digits of base 8
octal_steady : (bs : List ℕ) → Steady octal_reach octal_reach bs
octal_steady bs = by_more (λ b. is_octal b && nat_lt b 52) 3 4 two_octals bs (omega (arith, two_octals_least bs)) (omega arith) (by_more is_octal 4 5 three_octals bs (omega (arith, three_octals_least bs)) (omega arith) (by_byte is_octal 5 7 6 bs (omega arith) (omega arith)))

-- decimal digits
decimal_steady : (bs : List ℕ) → Steady decimal_reach decimal_reach bs
decimal_steady bs = by_more is_digit 3 4 two_digits bs (omega (arith, two_digits_least bs)) (omega arith) (by_byte is_digit 4 6 5 bs (omega arith) (omega arith))

-- an escape
escape_steady : (bs : List ℕ) → Steady escape_reach escape_reach bs
escape_steady bs =
    let digit : Steady from_digit from_digit bs = by_more is_digit 2 3 decimal_reach bs (omega (arith, decimal_least bs)) (omega arith) (decimal_steady bs) in
    let escaped : Steady from_escaped from_escaped bs = by_either is_escaped 2 (λ _. 4) from_digit bs (omega arith) (omega (arith, from_digit_least bs)) (λ cs e. (refl, refl)) digit in
    let octal : Steady from_o from_o bs = by_either (λ b. b == 111) 2 octal_reach from_escaped bs (omega (arith, octal_least bs)) (omega (arith, from_escaped_least bs)) (octal_steady bs) escaped in
    by_either (λ b. b == 120) 2 hexadecimal_reach from_o bs (omega (arith, hexadecimal_least bs)) (omega (arith, from_o_least bs)) (hexadecimal_steady bs) octal

-- the reach is the same
char_steady : (bs : List ℕ) → Steady char_reach char_reach bs
char_steady bs = by_either (λ b. b == 92) 1 escape_reach (λ l. if is_plain (get_or l 1 0) then 3 else 2) bs (omega (arith, escape_least bs)) (least_if (is_plain (get_or bs 1 0)) 3 2 2 (omega arith) (omega arith)) (escape_steady bs) (by_byte is_plain 1 3 2 bs (omega arith) (omega arith))

-- what a backslash may stand before is neither x nor o
escaped_not : (c : ℕ) → is_escaped c ≡ true → ((c == 120) ≡ false) × ((c == 111) ≡ false)
escaped_not c is = (grind (arith, nat_tests), grind (arith, nat_tests))

-- nor is a digit, and it is no escape
digit_not : (c : ℕ) → is_digit c ≡ true → ((c == 120) ≡ false) × ((c == 111) ≡ false) × (is_escaped c ≡ false)
digit_not c is = (grind (arith, nat_tests), grind (arith, nat_tests), grind (arith, nat_tests))

-- a character literal is looked at up to its end
char_reach_is : (w rest : List ℕ) → IsChar w → char_reach (w ++ rest) ≡ length w
char_reach_is w rest (plain {c = c} is) = ap (λ t. if t then escape_reach (39 ∷ c ∷ 39 ∷ rest) else (if is_plain c then 3 else 2)) (plain_not c is) ∙ ap (λ t. if t then 3 else 2) is
char_reach_is w rest (escape {c = c} is) =
    let l = 39 ∷ 92 ∷ c ∷ 39 ∷ rest in
    let others = escaped_not c is in
    ap (λ t. if t then hexadecimal_reach l else from_o l) others.0 ∙ ap (λ t. if t then octal_reach l else from_escaped l) others.1 ∙ ap (λ t. if t then 4 else from_digit l) is
char_reach_is w rest (decimal_code {a = a} {b = b} {c = c} is) =
    let l = 39 ∷ 92 ∷ a ∷ b ∷ c ∷ 39 ∷ rest in
    let last = and_parts (is_digit a && is_digit b) (is_digit c) is in
    let parts = and_parts (is_digit a) (is_digit b) last.0 in
    let others = digit_not a parts.0 in
    ap (λ t. if t then hexadecimal_reach l else from_o l) others.0 ∙ ap (λ t. if t then octal_reach l else from_escaped l) others.1 ∙ ap (λ t. if t then 4 else from_digit l) others.2 ∙ ap (λ t. if t then decimal_reach l else 3) parts.0
    ∙ ap (λ t. if t then two_digits l else 4) parts.1 ∙ ap (λ t. if t then 6 else 5) last.1
char_reach_is w rest (hexadecimal_code {a = a} {b = b} is) =
    let l = 39 ∷ 92 ∷ 120 ∷ a ∷ b ∷ 39 ∷ rest in
    let parts = and_parts (is_hexadecimal a) (is_hexadecimal b) is in
    ap (λ t. if t then two_hexadecimals l else 4) parts.0 ∙ ap (λ t. if t then 6 else 5) parts.1
char_reach_is w rest (octal_code {a = a} {b = b} {c = c} is) =
    let l = 39 ∷ 92 ∷ 111 ∷ a ∷ b ∷ c ∷ 39 ∷ rest in
    let last = and_parts (is_octal a && nat_lt a 52 && is_octal b) (is_octal c) is in
    let parts = and_parts (is_octal a && nat_lt a 52) (is_octal b) last.0 in
    ap (λ t. if t then two_octals l else 4) parts.0 ∙ ap (λ t. if t then three_octals l else 5) parts.1 ∙ ap (λ t. if t then 7 else 6) last.1

-- a front that both lists have
pub front_there : (w rest bs cs : List ℕ) → bs ≡ w ++ rest → take (length w) bs ≡ take (length w) cs → cs ≡ w ++ drop (length w) cs
front_there w rest bs cs whole e =
    let front : take (length w) cs ≡ w = sym e ∙ ap (λ (l : List ℕ). take (length w) l) whole ∙ take-append_seam w rest in
    sym (take-append-drop (length w) cs) ∙ ap (λ (l : List ℕ). l ++ drop (length w) cs) front

-- a character literal is there in the other list
pub char_same : (bs : List ℕ) → get_or bs 0 0 ≡ 39 → 0 < char_size bs → Keeps char_size (char_size bs) bs
char_same bs is some cs e =
    let has = char_found bs is some in
    let same : take (length has.0) bs ≡ take (length has.0) cs = subst (λ n. take n bs ≡ take n cs) has.4 e in
    ap char_size (front_there has.0 has.1 bs cs has.2 same) ∙ char_size_is has.0 (drop (length has.0) cs) has.3 ∙ sym has.4

-- where there is none, there is none in the other list
pub char_none : (bs : List ℕ) → get_or bs 0 0 ≡ 39 → nat_lt 0 (char_size bs) ≡ false → (cs : List ℕ) → take (char_reach bs) bs ≡ take (char_reach bs) cs → nat_lt 0 (char_size cs) ≡ false
char_none bs is none cs e = false_from_ne_true (nat_lt 0 (char_size cs)) (λ there.
    let first : get_or cs 0 0 ≡ 39 = agree_get (char_reach bs) 0 bs cs (omega (arith, char_reach_least bs)) e ∙ is in
    let has = char_found cs first (ltb-true 0 (char_size cs) there) in
    let reach : char_reach bs ≡ length has.0 = sym (char_steady bs cs e).0 ∙ ap char_reach has.2 ∙ char_reach_is has.0 has.1 has.3 in
    let same : take (length has.0) cs ≡ take (length has.0) bs = subst (λ n. take n cs ≡ take n bs) reach (sym e) in
    let size : char_size bs ≡ length has.0 = ap char_size (front_there has.0 has.1 cs bs has.2 same) ∙ char_size_is has.0 (drop (length has.0) bs) has.3 in
    both_ways (nat_lt 0 (char_size bs)) none (lt-ltb 0 (char_size bs) (omega (arith, size, char_long has.0 has.3))))

-- up to a place or the end
pub capped : (k : ℕ) (bs cs : List ℕ) → take (min k (length bs + 1)) bs ≡ take (min k (length bs + 1)) cs → take k bs ≡ take k cs
capped k bs cs e = elim (cases_lt (length bs) (min k (length bs + 1))) [
  | inl end ↦ ap (λ (l : List ℕ). take k l) (agree_whole (min k (length bs + 1)) bs cs end e)
  | inr more ↦ agree_less (min k (length bs + 1)) k bs cs (omega arith) e
]

-- a run whose first byte passes has a byte
pub first_passes : (test : ℕ → Bool) (l : List ℕ) → test 0 ≡ false → test (get_or l 0 0) ≡ true → 0 < run_length test l
first_passes test [] none is = absurd (both_ways (test 0) none is)
first_passes test (b ∷ l) none is = subst (λ t. 0 < (if t then run_length test l + 1 else 0)) (sym is) (omega arith)

-- and one whose first byte doesn't has none
pub first_fails : (test : ℕ → Bool) (l : List ℕ) → test (get_or l 0 0) ≡ false → run_length test l ≡ 0
first_fails test [] is = refl
first_fails test (b ∷ l) is = ap (λ t. if t then run_length test l + 1 else 0) is

-- the first byte of a name goes on it, and is no backslash
name_byte : (b : ℕ) → begins_name b ≡ true → (goes_on b ≡ true) × ((b == 92) ≡ false)
name_byte b is = (grind (arith, nat_tests), grind (arith, nat_tests))

-- the second byte is the first one behind the first
pub second_byte : (l : List ℕ) → get_or (drop 1 l) 0 0 ≡ get_or l 1 0
second_byte [] = refl
second_byte (b ∷ l) = refl

-- behind a quote that begins no literal
abbrev name_found : List ℕ → Found
name_found l = if begins_name (get_or l 1 0) then found ty_var (run_end goes_on 1 l) else stray_found l

-- and its reach
abbrev name_reach : List ℕ → ℕ
name_reach l = if begins_name (get_or l 1 0) then run_end goes_on 1 l + 1 else lone_tick_reach l

-- a type variable is looked at as far as a literal would be
var_long : (bs : List ℕ) → begins_name (get_or bs 1 0) ≡ true → char_reach bs ≤ run_end goes_on 1 bs + 1
var_long bs is =
    let byte = name_byte (get_or bs 1 0) is in
    let some = first_passes goes_on (drop 1 bs) refl (ap goes_on (second_byte bs) ∙ byte.0) in
    let short : char_reach bs ≡ (if is_plain (get_or bs 1 0) then 3 else 2) = ap (λ t. if t then escape_reach bs else (if is_plain (get_or bs 1 0) then 3 else 2)) byte.1 in
    let most : (if is_plain (get_or bs 1 0) then 3 else 2) ≤ 3 = at_most (is_plain (get_or bs 1 0)) in
    omega (arith, some, short, most)
  where
    at_most : (t : Bool) → (if t then 3 else 2) ≤ 3
    at_most true = omega arith
    at_most false = omega arith

-- that no literal begins is decided by the bytes before the reach
none_keeps : (bs : List ℕ) → get_or bs 0 0 ≡ 39 → nat_lt 0 (char_size bs) ≡ false → Keeps (λ l. nat_lt 0 (char_size l)) (name_reach bs) bs
none_keeps bs first none cs e = elim (begins_name (get_or bs 1 0)) as (λ t. begins_name (get_or bs 1 0) ≡ t → take (if t then run_end goes_on 1 bs + 1 else lone_tick_reach bs) bs ≡ take (if t then run_end goes_on 1 bs + 1 else lone_tick_reach bs) cs → nat_lt 0 (char_size cs) ≡ nat_lt 0 (char_size bs)) [
  | true ↦ λ is. λ e. char_none bs first none cs (agree_less (run_end goes_on 1 bs + 1) (char_reach bs) bs cs (var_long bs is) e) ∙ sym none
  | false ↦ λ is. λ e. char_none bs first none cs (capped (char_reach bs) bs cs (agree_less (lone_tick_reach bs) (min (char_reach bs) (length bs + 1)) bs cs (omega arith) e)) ∙ sym none
] refl e

-- up to a place or the end, the place is the same where the number is
same_cap : (k : ℕ) (bs cs : List ℕ) → take (min k (length bs + 1)) bs ≡ take (min k (length bs + 1)) cs → min k (length cs + 1) ≡ min k (length bs + 1)
same_cap k bs cs e = elim (cases_lt (length bs) (min k (length bs + 1))) [
  | inl end ↦ ap (λ (l : List ℕ). min k (length l + 1)) (sym (agree_whole (min k (length bs + 1)) bs cs end e))
  | inr more ↦ let long = agree_long (min k (length bs + 1)) (min k (length bs + 1)) bs cs e (omega arith) more in omega arith
]

-- a quote alone is looked at the same
lone_steady : (bs : List ℕ) → Steady stray_found lone_tick_reach bs
lone_steady bs cs e =
    let run : run_end continues 1 cs ≡ run_end continues 1 bs = agree_end continues 1 (lone_tick_reach bs) bs cs e (omega arith) in
    let cap = min (char_reach bs) (length bs + 1) in
    let near : take cap bs ≡ take cap cs = agree_less (lone_tick_reach bs) cap bs cs (omega arith) e in
    let reach : char_reach cs ≡ char_reach bs = (char_steady bs cs (capped (char_reach bs) bs cs near)).0 in
    (ap (λ k. found junk k) run, ap (λ k. max (k + 1) (min (char_reach cs) (length cs + 1))) run ∙ ap (λ k. max (run_end continues 1 bs + 1) (min k (length cs + 1))) reach ∙ ap (λ k. max (run_end continues 1 bs + 1) k) (same_cap (char_reach bs) bs cs near))

-- what begins with a quote
pub tick_steady : (bs : List ℕ) → get_or bs 0 0 ≡ 39 → Steady tick_found tick_reach bs
unfolding tick_found tick_reach
tick_steady bs first = steady_if (λ l. nat_lt 0 (char_size l)) (λ l. found char (char_size l)) name_found char_size name_reach bs
    (λ is. λ cs e. ap (λ k. nat_lt 0 k) (char_same bs first (ltb-true 0 (char_size bs) is) cs e))
    (λ none. none_keeps bs first none)
    (λ is. λ cs e. let same = char_same bs first (ltb-true 0 (char_size bs) is) cs e in (ap (λ k. found char k) same, same))
    (λ none. steady_if (λ l. begins_name (get_or l 1 0)) (λ l. found ty_var (run_end goes_on 1 l)) stray_found (λ l. run_end goes_on 1 l + 1) lone_tick_reach bs
    (λ _. byte_keeps begins_name 1 (run_end goes_on 1 bs + 1) bs (omega arith))
    (λ _. byte_keeps begins_name 1 (lone_tick_reach bs) bs (omega arith))
    (λ _. λ cs e. let same = agree_end goes_on 1 (run_end goes_on 1 bs + 1) bs cs e (omega arith) in (ap (λ k. found ty_var k) same, ap (λ k. k + 1) same))
    (λ _. lone_steady bs))
