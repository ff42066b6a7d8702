-- What begins with the sign of an operator, or is another mark.
use Rattle.std.proofs.Common.{◌≡◌, ◌≤◌, ◌<◌, ◌++◌, ℕ, List, true, false, take, drop, length, get_or, sym, subst, arith, refl, ap, ◌∙◌, length-take, inl, inr}
use Rattle.std.specs.Prelude.{if◌then◌else◌, ◌&&◌, ◌||◌, ◌==◌, codes}
use Rattle.std.proofs.lemmas.List.{take-append-drop}
use Rattle.std.proofs.lemmas.Bool.{and_parts, and_from, or_cases, both_ways}
use Rattle.std.proofs.lemmas.Bool.Decides.{nat_tests}
use Rattle.token_model.specs.Kinds.{Kind, outside}
use Rattle.token_model.specs.Bytes.{begins_operator, is_sign}
use Rattle.token_model.specs.Words.{sign_kind}
use Rattle.token_model.specs.Spellings.{Run, Spells, Mark, a_mark, an_operator, right_array_sign, right_greater_sign, right_object_sign}
use Rattle.ml_lexer.specs.Scans.{found, run_length, run_end, two_are, is_closing_sign, sign_found}
use Rattle.ml_lexer.proofs.Runs.{front_in_run, run_le}
use Rattle.ml_lexer.proofs.Inside.{two_known}
use Rattle.ml_lexer.proofs.Classes.{SignMark, array_end, greater_end, object_end, sign_class}
use Rattle.ml_lexer.proofs.Spelled.{IsSpelled, plainly, run_all, run_front}

pub operator_is_sign : (b : ℕ) → begins_operator b ≡ true → is_sign b ≡ true
operator_is_sign b is = grind (arith, nat_tests)

-- a sign that closes a bracket: it is spelled, and the run of signs has one byte
abbrev IsClosing : List ℕ → Type 0
IsClosing bs = (w : List ℕ) × (rest : List ℕ) × (bs ≡ w ++ rest) × (Mark outside w) × (length w ≡ 2) × (run_length is_sign bs ≡ 1)

closing_is : (bs : List ℕ) → is_closing_sign bs ≡ true → IsClosing bs
closing_is bs is = elim (or_cases (two_are 124 93 bs) (get_or bs 0 0 == 62 && (get_or bs 1 0 == 93 || get_or bs 1 0 == 125)) is) [
  | inl e ↦ let known = two_known 124 93 bs e (omega arith) (omega arith) in (codes "|]", drop 2 bs, known, right_array_sign, refl, ap (run_length is_sign) known ∙ omega arith)
  | inr e ↦
      let parts = and_parts (get_or bs 0 0 == 62) (get_or bs 1 0 == 93 || get_or bs 1 0 == 125) e in
      elim (or_cases (get_or bs 1 0 == 93) (get_or bs 1 0 == 125) parts.1) [
        | inl f ↦ let known = two_known 62 93 bs (and_from (get_or bs 0 0 == 62) (get_or bs 1 0 == 93) parts.0 f) (omega arith) (omega arith) in (codes ">]", drop 2 bs, known, right_greater_sign, refl, ap (run_length is_sign) known ∙ omega arith)
        | inr f ↦ let known = two_known 62 125 bs (and_from (get_or bs 0 0 == 62) (get_or bs 1 0 == 125) parts.0 f) (omega arith) (omega arith) in (codes ">}", drop 2 bs, known, right_object_sign, refl, ap (run_length is_sign) known ∙ omega arith)
      ]
]

-- a sign mark at the front is a closing sign of two bytes
sign_mark : {front : List ℕ} (bs behind : List ℕ) → bs ≡ front ++ behind → SignMark front → (is_closing_sign bs ≡ true) × (length front ≡ 2)
sign_mark bs behind whole array_end = (ap is_closing_sign whole, refl)
sign_mark bs behind whole greater_end = (ap is_closing_sign whole, refl)
sign_mark bs behind whole object_end = (ap is_closing_sign whole, refl)

pub sign_spelled : (bs : List ℕ) → 0 < length bs → begins_operator (get_or bs 0 0) ≡ true → IsSpelled sign_class bs (sign_found bs)
unfolding sign_found
sign_spelled bs some is =
    let n = run_length is_sign bs in
    let end : run_end is_sign 0 bs ≡ n = omega arith in
    let short : (front behind : List ℕ) → bs ≡ front ++ behind → Run begins_operator is_sign front → length front ≤ n = λ front behind whole r.
    subst (λ (l : List ℕ). length front ≤ run_length is_sign l) (sym whole) (front_in_run is_sign front behind (run_all begins_operator is_sign front operator_is_sign r)) in
    elim (is_closing_sign bs) as (λ t. is_closing_sign bs ≡ t → IsSpelled sign_class bs (if t then found outside 2 else found (sign_kind (take (run_end is_sign 0 bs) bs)) (run_end is_sign 0 bs))) [
      | true ↦ λ e.
          let c = closing_is bs e in
          plainly sign_class bs c.0 c.1 outside 2 c.2 (sym c.4) (a_mark c.3) (λ front behind whole of. elim of [
            | inl m ↦ omega (arith, (sign_mark bs behind whole m).1)
            | inr r ↦ omega (arith, short front behind whole r, c.5)
          ])
      | false ↦ λ e.
          let kind : sign_kind (take n bs) ≡ sign_kind (take (run_end is_sign 0 bs) bs) = ap (λ k. sign_kind (take k bs)) (sym end) in
          let run = run_front begins_operator is_sign bs some is (operator_is_sign (get_or bs 0 0) is) in
          plainly sign_class bs (take n bs) (drop n bs) (sign_kind (take (run_end is_sign 0 bs) bs)) (run_end is_sign 0 bs) (sym (take-append-drop n bs)) (omega (arith, run_le is_sign bs, length-take n bs))
          (subst (λ (k : Kind). Spells k (take n bs) (take n bs) (drop n bs)) kind (an_operator run))
          (λ front behind whole of. elim of [
            | inl m ↦ absurd (both_ways (is_closing_sign bs) e (sign_mark bs behind whole m).0)
            | inr r ↦ omega (arith, short front behind whole r)
          ])
    ] refl
