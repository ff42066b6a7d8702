-- What a `&` to a row of places shows of a run of them that hold their values. Assumes `Logic`.
use Rattle.std.proofs.Common.{◌≡◌, ℕ, zero, suc, ◌+◌, ◌*◌, ◌<◌, ◌≤◌, Bool, true, false, List, [], ◌∷◌, length, take, drop, get_or, refl, ◌∙◌, subst, arith, suc-mul, zero-mul, get_or-drop, length-drop, zero-lt-suc, suc-le-suc}
use seplogic.Ra.Ura.{Ura}
use base.Logic.{ent, via, id⊢, snd∗}
use base.Fml.{Lft, Fml}
use types.Logic.{Logic, sem}
use types.Kit.{‵, ◌$◌, ◌∵◌, !, qed, by, keep, drop as skip, rewrite, frame, fsplit, done}
use denote.RawPtr.{block_ptr}
use denote.Slice.{elements_shared}
use Rattle.core.specs.Mem.Slots.Ownership.{slot_lent, slots_lent, Filled}
use Rattle.core.proofs.mem.Param.{El, R, el_x}
use Rattle.core.proofs.slots.Places.{sz}

module _ (E : El) {M : Type 1} {𝓤 : Ura M} (𝓛 : Logic 𝓤) (κ : Lft) (b : ℕ) where
  abbrev Seen : ℕ → List (el_x E) → List Bool → Fml
  Seen o xs fs = slots_lent (R E) (block_ptr b o) xs fs κ

  -- the places from the k-th on
  passed : (k : ℕ) (xs : List (el_x E)) (fs : List Bool) (o at : ℕ) → k ≤ length xs → k ≤ length fs → at ≡ k * sz E + o → ent 𝓤 (sem 𝓛 (Seen o xs fs)) (sem 𝓛 (Seen at (drop k xs) (drop k fs)))
  passed zero xs fs o at lx lf e = let same : o ≡ at = omega (arith, zero-mul (sz E)) in subst (λ j. ent 𝓤 (sem 𝓛 (Seen o xs fs)) (sem 𝓛 (Seen j xs fs))) same (id⊢ 𝓤 _)
  passed (suc k) [] fs o at lx lf e = absurd (omega arith)
  passed (suc k) (x ∷ xs) [] o at lx lf e = absurd (omega arith)
  passed (suc k) (x ∷ xs) (f ∷ fs) o at lx lf e =
      via 𝓤 (sem 𝓛 (Seen (o + sz E) xs fs)) (snd∗ 𝓤 (sem 𝓛 (slot_lent (R E) f (block_ptr b o) x κ)) (sem 𝓛 (Seen (o + sz E) xs fs)))
      (passed k xs fs (o + sz E) at (omega arith) (omega arith) (omega (arith, suc-mul k (sz E))))

  -- the first n places, where each holds its value
  front : (n : ℕ) (xs : List (el_x E)) (fs : List Bool) (o : ℕ) → n ≤ length xs → n ≤ length fs → ((k : ℕ) → k < n → get_or fs k false ≡ true)
      → ent 𝓤 (sem 𝓛 (Seen o xs fs)) (sem 𝓛 (elements_shared (R E) (take n xs) b o κ))
  front zero xs fs o lx lf full = qed 𝓛 (‵ (Seen o xs fs) ∷ []) ∵ keep ! [] $ done !
  front (suc n) [] fs o lx lf full = absurd (omega arith)
  front (suc n) (x ∷ xs) [] o lx lf full = absurd (omega arith)
  front (suc n) (x ∷ xs) (f ∷ fs) o lx lf full =
      qed 𝓛 (‵ (slot_lent (R E) f (block_ptr b o) x κ) ∷ ‵ (Seen (o + sz E) xs fs) ∷ []) ∵
      rewrite ! 0 (λ (g : Bool). ‵ (slot_lent (R E) g (block_ptr b o) x κ)) (full 0 (zero-lt-suc n)) refl $ fsplit ! $ skip ! $ frame ! $
      by ! (front n xs fs (o + sz E) (omega arith) (omega arith) (λ k lt. full (suc k) (suc-le-suc lt)))

  -- the n places from the a-th on
  pub run_lent : (a n : ℕ) (xs : List (el_x E)) (fs : List Bool) (o : ℕ) → a + n ≤ length xs → a + n ≤ length fs → Filled fs a (a + n)
      → ent 𝓤 (sem 𝓛 (Seen o xs fs)) (sem 𝓛 (elements_shared (R E) (take n (drop a xs)) b (a * sz E + o) κ))
  run_lent a n xs fs o lx lf full =
      let dx = length-drop a xs in let df = length-drop a fs in
      via 𝓤 (sem 𝓛 (Seen (a * sz E + o) (drop a xs) (drop a fs))) (passed a xs fs o (a * sz E + o) (omega arith) (omega arith) refl)
      (front n (drop a xs) (drop a fs) (a * sz E + o) (omega arith) (omega arith) (λ k lt. get_or-drop a fs k false ∙ full (a + k) (omega arith) (omega arith)))
