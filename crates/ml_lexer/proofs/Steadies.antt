-- What is found at the front, and how far it is looked at, are decided by the bytes before the reach.
use Rattle.std.proofs.Common.{◌≡◌, ◌≤◌, ◌<◌, ℕ, List, false, take, get_or, ap, ◌∙◌, arith, refl, inl, inr}
use Rattle.std.specs.Prelude.{if◌then◌else◌, ◌==◌, ◌&&◌}
use Rattle.std.proofs.lemmas.Bool.{eqb-true, and_left, cases_Bool}
use Rattle.token_model.specs.Bytes.{is_digit, is_lower, is_upper, begins_operator}
use Rattle.token_model.specs.Comments.{begins_comment}
use Rattle.ml_lexer.specs.Scans.{Found, found_from, word_found, upper_found, numeral_found, tick_found, quote_found, paren_found, bracket_found, brace_found, sign_found, mark_or_stray}
use Rattle.ml_lexer.specs.Reaches.{word_reach, upper_reach, numeral_reach, tick_reach, quote_reach, paren_reach, bracket_reach, brace_reach, sign_reach, mark_reach, reach_from}
use Rattle.ml_lexer.proofs.SpelledSigns.{operator_is_sign}
use Rattle.ml_lexer.proofs.Standing.{f2, f3, f4, f5, f6, f7, f8, f9}
use Rattle.ml_lexer.proofs.Agree.{agree_get, Steady, steady_if}
use Rattle.ml_lexer.proofs.SteadyWords.{word_steady, upper_steady}
use Rattle.ml_lexer.proofs.SteadyNumerals.{numeral_steady}
use Rattle.ml_lexer.proofs.SteadyTicks.{tick_steady}
use Rattle.ml_lexer.proofs.SteadyTexts.{quote_steady, brace_steady}
use Rattle.ml_lexer.proofs.SteadyBrackets.{bracket_steady, paren_steady, paren_long}
use Rattle.ml_lexer.proofs.SteadyMarks.{sign_steady, mark_steady}

-- the reaches, from a test on
abbrev pub r9 : ℕ → List ℕ → ℕ
r9 b bs = if begins_operator b then sign_reach bs else mark_reach b bs

abbrev pub r8 : ℕ → List ℕ → ℕ
r8 b bs = if b == 123 then brace_reach bs else r9 b bs

abbrev pub r7 : ℕ → List ℕ → ℕ
r7 b bs = if b == 91 then bracket_reach bs else r8 b bs

abbrev pub r6 : ℕ → List ℕ → ℕ
r6 b bs = if b == 40 then paren_reach bs else r7 b bs

abbrev pub r5 : ℕ → List ℕ → ℕ
r5 b bs = if b == 34 then quote_reach bs else r6 b bs

abbrev pub r4 : ℕ → List ℕ → ℕ
r4 b bs = if b == 39 then tick_reach bs else r5 b bs

abbrev pub r3 : ℕ → List ℕ → ℕ
r3 b bs = if is_digit b then numeral_reach bs else r4 b bs

abbrev pub r2 : ℕ → List ℕ → ℕ
r2 b bs = if is_upper b then upper_reach bs else r3 b bs

-- the scan of each byte is steady
from_steady : (bs : List ℕ) → Steady (found_from (get_or bs 0 0)) (reach_from (get_or bs 0 0)) bs
unfolding found_from reach_from
from_steady bs =
    let b = get_or bs 0 0 in
    steady_if (λ _. is_lower b) word_found (f2 b) word_reach (r2 b) bs (λ _ cs e. refl) (λ _ cs e. refl) (λ _. word_steady bs)
    (λ _. steady_if (λ _. is_upper b) upper_found (f3 b) upper_reach (r3 b) bs (λ _ cs e. refl) (λ _ cs e. refl) (λ _. upper_steady bs)
    (λ _. steady_if (λ _. is_digit b) numeral_found (f4 b) numeral_reach (r4 b) bs (λ _ cs e. refl) (λ _ cs e. refl) (λ is. numeral_steady bs is)
    (λ _. steady_if (λ _. b == 39) tick_found (f5 b) tick_reach (r5 b) bs (λ _ cs e. refl) (λ _ cs e. refl) (λ is. tick_steady bs (eqb-true b 39 is))
    (λ _. steady_if (λ _. b == 34) quote_found (f6 b) quote_reach (r6 b) bs (λ _ cs e. refl) (λ _ cs e. refl) (λ _. quote_steady bs)
    (λ _. steady_if (λ _. b == 40) paren_found (f7 b) paren_reach (r7 b) bs (λ _ cs e. refl) (λ _ cs e. refl) (λ _. paren_steady bs)
    (λ _. steady_if (λ _. b == 91) bracket_found (f8 b) bracket_reach (r8 b) bs (λ _ cs e. refl) (λ _ cs e. refl) (λ _. bracket_steady bs)
    (λ _. steady_if (λ _. b == 123) brace_found (f9 b) brace_reach (r9 b) bs (λ _ cs e. refl) (λ _ cs e. refl) (λ is. brace_steady bs (eqb-true b 123 is))
    (λ _. steady_if (λ _. begins_operator b) sign_found (mark_or_stray b) sign_reach (mark_reach b) bs (λ _ cs e. refl) (λ _ cs e. refl) (λ is. sign_steady bs (operator_is_sign b is))
    (λ _. mark_steady b bs)))))))))

-- what is found at the front
abbrev pub front_found : List ℕ → Found
front_found l = found_from (get_or l 0 0) l

-- and how far that is looked at
abbrev pub front_reach : List ℕ → ℕ
front_reach l = reach_from (get_or l 0 0) l

-- both are the same in each list with the same bytes before the reach
pub front_steady : (bs cs : List ℕ) → 0 < front_reach bs → take (front_reach bs) bs ≡ take (front_reach bs) cs → (front_found cs ≡ front_found bs) × (front_reach cs ≡ front_reach bs)
front_steady bs cs some e =
    let first = agree_get (front_reach bs) 0 bs cs some e in
    let x = from_steady bs cs e in
    (ap (λ b. found_from b cs) first ∙ x.0, ap (λ b. reach_from b cs) first ∙ x.1)

-- behind `(` the second byte is looked at
paren_first : (l : List ℕ) → get_or l 0 0 ≡ 40 → 2 ≤ front_reach l
unfolding reach_from
paren_first l is =
    let same : front_reach l ≡ paren_reach l = ap (λ b. reach_from b l) is in
    omega (arith, same, paren_long l)

-- where no comment begins, none does in the other list
pub comment_steady : (bs cs : List ℕ) → 0 < front_reach bs → take (front_reach bs) bs ≡ take (front_reach bs) cs → begins_comment bs ≡ false → begins_comment cs ≡ false
comment_steady bs cs some e none =
    let first = agree_get (front_reach bs) 0 bs cs some e in
    elim (cases_Bool (get_or bs 0 0 == 40)) [
      | inl is ↦
          let second = agree_get (front_reach bs) 1 bs cs (omega (arith, paren_first bs (eqb-true (get_or bs 0 0) 40 is))) e in
          ap (λ b. b == 40 && get_or cs 1 0 == 42) first ∙ ap (λ b. get_or bs 0 0 == 40 && b == 42) second ∙ none
      | inr other ↦ and_left (get_or cs 0 0 == 40) (get_or cs 1 0 == 42) (ap (λ b. b == 40) first ∙ other)
    ]
