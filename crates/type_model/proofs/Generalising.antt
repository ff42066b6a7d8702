-- The two lemmas on generalisation: what generalising before and after a substitution have in common.
use Rattle.std.proofs.Common.{◌≡◌, ℕ, Bool, true, false, not, refl, sym, ◌∙◌, ap}
use Rattle.type_model.specs.Types.{Typ, Var, occurs}
use Rattle.type_model.specs.Substitutions.{Subst, apply, after}
use Rattle.type_model.specs.Schemes.{HasInstance, generalised}
use Rattle.type_model.proofs.Applying.{apply_agree, apply-apply, apply_leaves}

-- what s puts in for a fixed variable has only variables that are fixed afterwards
abbrev pub Closes : (ℕ → Bool) → (ℕ → Bool) → Subst → Typ → Type 0
Closes fixed fixed' s t =
    (v : ℕ) → occurs v t ≡ true → fixed v ≡ true → (w : ℕ) → occurs w (s v) ≡ true → fixed' w ≡ true

-- an instance of s of the scheme: s at the fixed variables, anything at the bound ones
abbrev pub HasInstanceAfter : (ℕ → Bool) → Subst → Typ → Typ → Type 0
HasInstanceAfter fixed s t x =
    (r : Subst) × ((v : ℕ) → occurs v t ≡ true → fixed v ≡ true → r v ≡ s v) × (x ≡ apply r t)

-- for every s: an instance of the scheme generalised after s is one of s of the scheme
pub instance_before : (fixed fixed' : ℕ → Bool) (s : Subst) (t x : Typ) →
    Closes fixed fixed' s t →
    HasInstance (generalised fixed' (apply s t)) x → HasInstanceAfter fixed s t x
instance_before fixed fixed' s t x closes (r, keeps, e) = (
  after r s,
  λ v o f. apply_leaves r (s v) (λ w o'. keeps w (ap not (closes v o f w o'))),
  e ∙ apply-apply r s t,
)

abbrev pub choose : Bool → Typ → Typ → Typ
choose true a b = a
choose false a b = b

-- where s leaves the bound variables alone and puts none of them in, the other way too
pub instance_after : (fixed fixed' : ℕ → Bool) (s : Subst) (t x : Typ) →
    Closes fixed fixed' s t →
    ((v : ℕ) → occurs v t ≡ true → fixed v ≡ false → (s v ≡ Var v) × (fixed' v ≡ false)) →
    HasInstanceAfter fixed s t x → HasInstance (generalised fixed' (apply s t)) x
instance_after fixed fixed' s t x closes leaves (r, agrees, e) =
    let q : Subst = λ w. choose (fixed' w) (Var w) (r w) in
    (q, λ v f. keep v (fixed' v) refl f, e ∙ sym (apply-apply q s t ∙ apply_agree (after q s) r t (λ v o. at v o (fixed v) refl)))
  where
    keep : (v : ℕ) (b : Bool) → fixed' v ≡ b → not (fixed' v) ≡ false → choose (fixed' v) (Var v) (r v) ≡ Var v
    keep v true h f = rw h refl
    keep v false h f = absurd (let g : not (fixed' v) ≡ true = rw h refl in cc)

    at : (v : ℕ) → occurs v t ≡ true → (b : Bool) → fixed v ≡ b → apply (λ w. choose (fixed' w) (Var w) (r w)) (s v) ≡ r v
    at v o true h =
        apply_leaves (λ w. choose (fixed' w) (Var w) (r w)) (s v) (λ w o'. rw (closes v o h w o') refl) ∙ sym (agrees v o h)
    at v o false h = rw (leaves v o h).0 (rw (leaves v o h).1 refl)
