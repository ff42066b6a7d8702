-- What two sets of kept demands ask, condition by condition, as far as they keep the same.
use Rattle.std.proofs.Common.{◌≡◌, ℕ, Bool, true, false, List, [], ◌∷◌, ◌++◌, refl, subst, if◌then◌else◌}
use Rattle.tree_model.specs.Trees.{Place}
use Rattle.type_model.specs.Types.{Typ}
use Rattle.type_model.specs.Schemes.{Scheme}
use Rattle.signature_model.specs.Entries.{Environment}
use Rattle.typing_model.specs.Demands.{Site, Demand, Condition, same, instance, made, known, demand, treated}
use Rattle.typing_laws.proofs.Together.{Kept, Together, Agreed, no_more, kept_alike, past_same, past_instance, past_made, past_known, past_treated}
use Rattle.typing_laws.proofs.Together as together

-- two lists of conditions are one up to the first demand that one set keeps and the other doesn't
pub data Whole (k m : Kept) : List Condition → List Condition → Type 0 where
  at_end : Whole k m [] []
  at_demand : {s : Site} {p : Place} {d : Demand} {cs ds : List Condition} → (k s ≡ m s → Whole k m cs ds) → Whole k m (demand s p d ∷ cs) (demand s p d ∷ ds)
  at_same : {t u : Typ} {cs ds : List Condition} → Whole k m cs ds → Whole k m (same t u ∷ cs) (same t u ∷ ds)
  at_instance : {s : Scheme} {t : Typ} {cs ds : List Condition} → Whole k m cs ds → Whole k m (instance s t ∷ cs) (instance s t ∷ ds)
  at_made : {i : ℕ} {t : Typ} {cs ds : List Condition} → Whole k m cs ds → Whole k m (made i t ∷ cs) (made i t ∷ ds)
  at_known : {t : Typ} {cs ds : List Condition} → Whole k m cs ds → Whole k m (known t ∷ cs) (known t ∷ ds)
  at_treated : {i : ℕ} {e : Environment} {cs ds : List Condition} → Whole k m cs ds → Whole k m (treated i e ∷ cs) (treated i e ∷ ds)

-- so they have the same demands
pub weaken : {k m : Kept} {cs ds : List Condition} → Whole k m cs ds → Together k m cs ds
weaken at_end = together.at_end
weaken (at_demand f) = together.at_demand refl (λ a. weaken (f a))
weaken (at_same h) = together.at_same (weaken h)
weaken (at_instance h) = together.at_instance (weaken h)
weaken (at_made h) = together.at_made (weaken h)
weaken (at_known h) = together.at_known (weaken h)
weaken (at_treated h) = together.at_treated (weaken h)

-- conditions are one with themselves
pub alone : {k m : Kept} (cs : List Condition) → Whole k m cs cs
alone [] = at_end
alone (same t u ∷ cs) = at_same (alone cs)
alone (instance s t ∷ cs) = at_instance (alone cs)
alone (made n t ∷ cs) = at_made (alone cs)
alone (known t ∷ cs) = at_known (alone cs)
alone (demand s p d ∷ cs) = at_demand (λ e. alone cs)
alone (treated n e ∷ cs) = at_treated (alone cs)

-- and so are further ones behind, which need be so only where all before are kept alike
pub behind : {k m : Kept} {xs ys us vs : List Condition} → Whole k m xs ys → (Agreed k m xs → Whole k m us vs) → Whole k m (xs ++ us) (ys ++ vs)
behind at_end f = f no_more
behind (at_demand g) f = at_demand (λ a. behind (g a) (λ b. f (kept_alike a b)))
behind (at_same h) f = at_same (behind h (λ b. f (past_same b)))
behind (at_instance h) f = at_instance (behind h (λ b. f (past_instance b)))
behind (at_made h) f = at_made (behind h (λ b. f (past_made b)))
behind (at_known h) f = at_known (behind h (λ b. f (past_known b)))
behind (at_treated h) f = at_treated (behind h (λ b. f (past_treated b)))

-- what depends on a test that comes out alike
pub if_alike : {k m : Kept} (a b : Bool) {xs ys us vs : List Condition} → a ≡ b → Whole k m xs us → Whole k m ys vs → Whole k m (if a then xs else ys) (if b then us else vs)
if_alike true true e h g = h
if_alike false false e h g = g
if_alike true false e h g = absurd (cc)
if_alike false true e h g = absurd (cc)

-- what is made of equal things
pub along : {k m : Kept} {A : Type 0} (f g : A → List Condition) {a b : A} → a ≡ b → Whole k m (f a) (g a) → Whole k m (f a) (g b)
along {k} {m} f g {a} e h = subst (λ z. Whole k m (f a) (g z)) e h
