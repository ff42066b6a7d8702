-- Runs of bytes that pass a test.
use Rattle.std.proofs.Common.{◌≡◌, ◌+◌, ◌≤◌, ◌<◌, ◌++◌, ◌∷◌, [], ℕ, zero, suc, List, Bool, true, false, take, drop, length, get_or, sym, subst, arith, refl, ap, ◌∙◌}
use Rattle.std.specs.Prelude.{if◌then◌else◌}
use Rattle.std.specs.List.{list_all}
use Rattle.std.proofs.lemmas.Bool.{and_parts, and_from}
use Rattle.token_model.specs.Bytes.{begins}
use Rattle.ml_lexer.specs.Scans.{run_length}

-- a run whose first byte passes has a byte
pub run_some : (test : ℕ → Bool) (bs : List ℕ) → 0 < length bs → test (get_or bs 0 0) ≡ true → 0 < run_length test bs
run_some test [] some passes = absurd (omega arith)
run_some test (b ∷ bs) some passes = subst (λ t. 0 < (if t then run_length test bs + 1 else 0)) (sym passes) (omega arith)

run_more : (test : ℕ → Bool) (b : ℕ) (bs : List ℕ) → test b ≡ true → run_length test (b ∷ bs) ≡ run_length test bs + 1
run_more test b bs passes = ap (λ t. if t then run_length test bs + 1 else 0) passes

run_none : (test : ℕ → Bool) (b : ℕ) (bs : List ℕ) → test b ≡ false → run_length test (b ∷ bs) ≡ 0
run_none test b bs fails = ap (λ t. if t then run_length test bs + 1 else 0) fails

-- a front that passes is no longer than the run
pub front_in_run : (test : ℕ → Bool) (u rest : List ℕ) → list_all test u ≡ true → length u ≤ run_length test (u ++ rest)
front_in_run test [] rest all = omega arith
front_in_run test (b ∷ bs) rest all =
    let parts = and_parts (test b) (list_all test bs) all in
    omega (arith, front_in_run test bs rest parts.1, run_more test b (bs ++ rest) parts.0)

-- a front that passes before a byte that doesn't is the run
pub run_exact : (test : ℕ → Bool) (u rest : List ℕ) → list_all test u ≡ true → begins test rest ≡ false → run_length test (u ++ rest) ≡ length u
run_exact test [] [] all stops = refl
run_exact test [] (b ∷ bs) all stops = run_none test b bs stops
run_exact test (b ∷ bs) rest all stops =
    let parts = and_parts (test b) (list_all test bs) all in
    omega (arith, run_exact test bs rest parts.1 stops, run_more test b (bs ++ rest) parts.0)

-- the bytes of a run pass
pub run_passes : (test : ℕ → Bool) (bs : List ℕ) → list_all test (take (run_length test bs) bs) ≡ true
run_passes test [] = refl
run_passes test (b ∷ bs) =
    let size : run_length test bs + 1 ≡ suc (run_length test bs) = omega arith in
    elim (test b) as (λ t. test b ≡ t → list_all test (take (if t then run_length test bs + 1 else 0) (b ∷ bs)) ≡ true) [
      | true ↦ λ e. ap (λ n. list_all test (take n (b ∷ bs))) size ∙ and_from (test b) (list_all test (take (run_length test bs) bs)) e (run_passes test bs)
      | false ↦ λ e. refl
    ] refl

-- the byte behind a run doesn't
pub run_stops : (test : ℕ → Bool) (bs : List ℕ) → begins test (drop (run_length test bs) bs) ≡ false
run_stops test [] = refl
run_stops test (b ∷ bs) =
    let size : run_length test bs + 1 ≡ suc (run_length test bs) = omega arith in
    elim (test b) as (λ t. test b ≡ t → begins test (drop (if t then run_length test bs + 1 else 0) (b ∷ bs)) ≡ false) [
      | true ↦ λ e. ap (λ n. begins test (drop n (b ∷ bs))) size ∙ run_stops test bs
      | false ↦ λ e. e
    ] refl

pub run_le : (test : ℕ → Bool) (bs : List ℕ) → run_length test bs ≤ length bs
run_le test [] = omega arith
run_le test (b ∷ bs) = elim (test b) as (λ t. (if t then run_length test bs + 1 else 0) ≤ length (b ∷ bs)) [ true ↦ omega (arith, run_le test bs) | false ↦ omega arith ]

-- from a later place in a list a run ends no earlier
pub run_later : (test : ℕ → Bool) (n : ℕ) (bs : List ℕ) → run_length test bs ≤ n + run_length test (drop n bs)
run_later test zero bs = omega arith
run_later test (suc n) [] = omega arith
run_later test (suc n) (b ∷ bs) = elim (test b) as (λ t. (if t then run_length test bs + 1 else 0) ≤ suc n + run_length test (drop n bs)) [ true ↦ omega (arith, run_later test n bs) | false ↦ omega arith ]
