-- Texts with the same first bytes.
use Rattle.std.proofs.Common.{◌≡◌, ◌+◌, ◌-◌, ◌≤◌, ◌<◌, ◌∷◌, [], ℕ, zero, suc, List, Bool, true, false, take, drop, length, get_or, sym, ap, ◌∙◌, arith, refl, length-take}
use Rattle.std.specs.Prelude.{if◌then◌else◌}
use Rattle.std.proofs.lemmas.List.{take-take, take_all, get_or-take, drop-take}
use Rattle.ml_lexer.specs.Scans.{run_length, run_end}

-- what stands before an earlier place is the same too
pub agree_less : (s r : ℕ) (bs cs : List ℕ) → r ≤ s → take s bs ≡ take s cs → take r bs ≡ take r cs
agree_less s r bs cs h e = sym (take-take r s bs h) ∙ ap (λ (l : List ℕ). take r l) e ∙ take-take r s cs h

-- the bytes before the place are the same
pub agree_get : (r k : ℕ) (bs cs : List ℕ) → k < r → take r bs ≡ take r cs → get_or cs k 0 ≡ get_or bs k 0
agree_get r k bs cs h e = sym (get_or-take r cs k 0 h) ∙ ap (λ (l : List ℕ). get_or l k 0) (sym e) ∙ get_or-take r bs k 0 h

-- what stands behind some of them is the same
pub agree_drop : (k r : ℕ) (bs cs : List ℕ) → take (k + r) bs ≡ take (k + r) cs → take r (drop k bs) ≡ take r (drop k cs)
agree_drop k r bs cs e = sym (drop-take k r bs) ∙ ap (λ (l : List ℕ). drop k l) e ∙ drop-take k r cs

-- and so is each part
pub agree_part : (r k n : ℕ) (bs cs : List ℕ) → k + n ≤ r → take r bs ≡ take r cs → take n (drop k cs) ≡ take n (drop k bs)
agree_part r k n bs cs h e = sym (agree_drop k n bs cs (agree_less r (k + n) bs cs h e))

-- a list that ends before the place is the whole of the other
pub agree_whole : (r : ℕ) (bs cs : List ℕ) → length bs < r → take r bs ≡ take r cs → bs ≡ cs
agree_whole r bs cs h e =
    let all : take r bs ≡ bs = take_all r bs (omega arith) in
    let size = ap length e in
    let short : length cs ≤ r = omega (arith, size, length-take r bs, length-take r cs) in
    sym all ∙ e ∙ take_all r cs short

-- the other list is no shorter before the place
pub agree_long : (r n : ℕ) (bs cs : List ℕ) → take r bs ≡ take r cs → n ≤ r → n ≤ length bs → n ≤ length cs
agree_long r n bs cs e h long = omega (arith, ap length e, length-take r bs, length-take r cs)

-- a run that ends before the place ends there in the other list
pub agree_run : (test : ℕ → Bool) (r : ℕ) (bs cs : List ℕ) → take r bs ≡ take r cs → run_length test bs < r → run_length test cs ≡ run_length test bs
agree_run test zero bs cs e h = absurd (omega (arith, h))
agree_run test (suc r) [] [] e h = refl
agree_run test (suc r) [] (c ∷ cs) e h = cc
agree_run test (suc r) (b ∷ bs) [] e h = cc
agree_run test (suc r) (b ∷ bs) (c ∷ cs) e h =
    let same : c ≡ b = cc in
    let more : take r bs ≡ take r cs = cc in
    elim (test b) as (λ t. test b ≡ t → (if t then run_length test bs + 1 else 0) < suc r → run_length test (c ∷ cs) ≡ (if t then run_length test bs + 1 else 0)) [
      | true ↦ λ is. λ less. ap (λ t. if t then run_length test cs + 1 else 0) (ap test same ∙ is) ∙ ap (λ n. n + 1) (agree_run test r bs cs more (omega (arith, less)))
      | false ↦ λ is. λ less. ap (λ t. if t then run_length test cs + 1 else 0) (ap test same ∙ is)
    ] refl h

-- and so does one from a later place on
pub agree_end : (test : ℕ → Bool) (k r : ℕ) (bs cs : List ℕ) → take r bs ≡ take r cs → run_end test k bs < r → run_end test k cs ≡ run_end test k bs
agree_end test k r bs cs e h =
    let cut : k + (r - k) ≡ r = omega (arith, h) in
    let same : take (k + (r - k)) bs ≡ take (k + (r - k)) cs = ap (λ n. take n bs) cut ∙ e ∙ ap (λ n. take n cs) (sym cut) in
    ap (λ n. k + n) (agree_run test (r - k) (drop k bs) (drop k cs) (agree_drop k (r - k) bs cs same) (omega (arith, h)))

-- F gives the same for each list with the same first r bytes
abbrev pub Keeps : {A : Type 0} → (List ℕ → A) → ℕ → List ℕ → Type 0
Keeps F r bs = (cs : List ℕ) → take r bs ≡ take r cs → F cs ≡ F bs

-- F and its reach R are the same for each list with the same bytes before the reach
abbrev pub Steady : {A : Type 0} → (List ℕ → A) → (List ℕ → ℕ) → List ℕ → Type 0
Steady F R bs = (cs : List ℕ) → take (R bs) bs ≡ take (R bs) cs → (F cs ≡ F bs) × (R cs ≡ R bs)

-- one of two, by a test that looks at no byte behind the reach
pub steady_if : {A : Type 0} (c : List ℕ → Bool) (F G : List ℕ → A) (R S : List ℕ → ℕ) (bs : List ℕ) → (c bs ≡ true → Keeps c (R bs) bs) → (c bs ≡ false → Keeps c (S bs) bs)
    → (c bs ≡ true → Steady F R bs) → (c bs ≡ false → Steady G S bs) → Steady (λ l. if c l then F l else G l) (λ l. if c l then R l else S l) bs
steady_if c F G R S bs looks_true looks_false first second cs =
    elim (c bs) as (λ t. c bs ≡ t → take (if t then R bs else S bs) bs ≡ take (if t then R bs else S bs) cs → ((if c cs then F cs else G cs) ≡ (if t then F bs else G bs)) × ((if c cs then R cs else S cs) ≡ (if t then R bs else S bs))) [
      | true ↦ λ is. λ e.
          let there : c cs ≡ true = looks_true is cs e ∙ is in
          let x = first is cs e in
          (ap (λ t. if t then F cs else G cs) there ∙ x.0, ap (λ t. if t then R cs else S cs) there ∙ x.1)
      | false ↦ λ is. λ e.
          let there : c cs ≡ false = looks_false is cs e ∙ is in
          let x = second is cs e in
          (ap (λ t. if t then F cs else G cs) there ∙ x.0, ap (λ t. if t then R cs else S cs) there ∙ x.1)
    ] refl

-- a test of one byte before the reach
pub byte_keeps : (test : ℕ → Bool) (k r : ℕ) (bs : List ℕ) → k < r → Keeps (λ l. test (get_or l k 0)) r bs
byte_keeps test k r bs h cs e = ap test (agree_get r k bs cs h e)

-- a lower bound of either is one of the choice
pub least_if : (t : Bool) (m n k : ℕ) → k ≤ m → k ≤ n → k ≤ (if t then m else n)
least_if true m n k p q = p
least_if false m n k p q = q
