-- Runs of bytes before a place, byte by byte.
use Rattle.std.proofs.Common.{◌≡◌, ◌∙◌, ◌-◌, ◌<◌, ℕ, zero, suc, List, Bool, true, false, refl, ap, sym, arith}
use Rattle.std.specs.Prelude.{slice_index, if◌then◌else◌}
use Rattle.lsp_model.specs.Spans.{run_start}

-- a run begins before a byte of its kind
pub run_on : (test : ℕ → Bool) (text : List ℕ) (n : ℕ) → 0 < n → test (slice_index text (n - 1)) ≡ true → run_start test text (n - 1) ≡ run_start test text n
run_on test text zero some is = absurd (omega (arith, some))
run_on test text (suc n) some is =
    let same : suc n - 1 ≡ n = omega arith in
    ap (run_start test text) same ∙ sym (ap (λ b. if b then run_start test text n else suc n) (ap (λ k. test (slice_index text k)) (sym same) ∙ is))

-- and behind a byte of another
pub run_off : (test : ℕ → Bool) (text : List ℕ) (n : ℕ) → 0 < n → test (slice_index text (n - 1)) ≡ false → run_start test text n ≡ n
run_off test text zero some is = refl
run_off test text (suc n) some is =
    let same : suc n - 1 ≡ n = omega arith in
    ap (λ b. if b then run_start test text n else suc n) (ap (λ k. test (slice_index text k)) (sym same) ∙ is)

-- none begins at the start
pub run_none : (test : ℕ → Bool) (text : List ℕ) (n : ℕ) → n ≡ 0 → run_start test text n ≡ n
run_none test text zero none = refl
run_none test text (suc n) none = absurd (omega (arith, none))
