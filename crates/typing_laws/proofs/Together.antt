-- What two sets of kept demands ask, as far as they keep the same.
use Rattle.std.proofs.Common.{◌≡◌, ℕ, Bool, true, false, List, [], ◌∷◌, ◌++◌, refl, subst, if◌then◌else◌}
use Rattle.tree_model.specs.Trees.{Place}
use Rattle.type_model.specs.Types.{Typ}
use Rattle.type_model.specs.Schemes.{Scheme}
use Rattle.signature_model.specs.Entries.{Environment}
use Rattle.typing_model.specs.Demands.{Site, Demand, equal, test, agrees, matches, closes, Condition, same, instance, made, known, demand, treated}
use Rattle.typing_model.specs.Contexts.{Context}

abbrev pub Kept : Type 0
Kept = Site → Bool

-- a context with these demands kept
abbrev pub keeping : Kept → Context → Context
keeping k c = record c { kept = k }

-- whether a demand is that a body closes
abbrev pub is_end : Demand → Bool
is_end (equal t u) = false
is_end (test c b) = false
is_end (agrees c n s t) = false
is_end (matches a t) = false
is_end (closes e s) = true

-- whether a demand compares signatures
abbrev pub on_signatures : Demand → Bool
on_signatures (equal t u) = false
on_signatures (test c b) = false
on_signatures (agrees c n s t) = false
on_signatures (matches a t) = true
on_signatures (closes e s) = true

-- two lists of conditions have the same demands, in order, up to the first that one keeps and the other doesn't
pub data Together (k m : Kept) : List Condition → List Condition → Type 0 where
  at_end : Together k m [] []
  at_demand : {s : Site} {p q : Place} {d e : Demand} {cs ds : List Condition} → is_end d ≡ is_end e → (k s ≡ m s → Together k m cs ds) → Together k m (demand s p d ∷ cs) (demand s q e ∷ ds)
  at_same : {t u v w : Typ} {cs ds : List Condition} → Together k m cs ds → Together k m (same t u ∷ cs) (same v w ∷ ds)
  at_instance : {s z : Scheme} {t u : Typ} {cs ds : List Condition} → Together k m cs ds → Together k m (instance s t ∷ cs) (instance z u ∷ ds)
  at_made : {i j : ℕ} {t u : Typ} {cs ds : List Condition} → Together k m cs ds → Together k m (made i t ∷ cs) (made j u ∷ ds)
  at_known : {t u : Typ} {cs ds : List Condition} → Together k m cs ds → Together k m (known t ∷ cs) (known u ∷ ds)
  at_treated : {i j : ℕ} {e f : Environment} {cs ds : List Condition} → Together k m cs ds → Together k m (treated i e ∷ cs) (treated j f ∷ ds)

-- each demand among conditions is kept by both or by neither
pub data Agreed (k m : Kept) : List Condition → Type 0 where
  no_more : Agreed k m []
  kept_alike : {s : Site} {p : Place} {d : Demand} {cs : List Condition} → k s ≡ m s → Agreed k m cs → Agreed k m (demand s p d ∷ cs)
  past_same : {t u : Typ} {cs : List Condition} → Agreed k m cs → Agreed k m (same t u ∷ cs)
  past_instance : {s : Scheme} {t : Typ} {cs : List Condition} → Agreed k m cs → Agreed k m (instance s t ∷ cs)
  past_made : {n : ℕ} {t : Typ} {cs : List Condition} → Agreed k m cs → Agreed k m (made n t ∷ cs)
  past_known : {t : Typ} {cs : List Condition} → Agreed k m cs → Agreed k m (known t ∷ cs)
  past_treated : {n : ℕ} {e : Environment} {cs : List Condition} → Agreed k m cs → Agreed k m (treated n e ∷ cs)

-- conditions go together with themselves
pub alone : {k m : Kept} (cs : List Condition) → Together k m cs cs
alone [] = at_end
alone (same t u ∷ cs) = at_same (alone cs)
alone (instance s t ∷ cs) = at_instance (alone cs)
alone (made n t ∷ cs) = at_made (alone cs)
alone (known t ∷ cs) = at_known (alone cs)
alone (demand s p d ∷ cs) = at_demand refl (λ e. alone cs)
alone (treated n e ∷ cs) = at_treated (alone cs)

-- and so do further ones behind, which need do so only where all before are kept alike
pub behind : {k m : Kept} {xs ys us vs : List Condition} → Together k m xs ys → (Agreed k m xs → Together k m us vs) → Together k m (xs ++ us) (ys ++ vs)
behind at_end f = f no_more
behind (at_demand e g) f = at_demand e (λ a. behind (g a) (λ b. f (kept_alike a b)))
behind (at_same h) f = at_same (behind h (λ b. f (past_same b)))
behind (at_instance h) f = at_instance (behind h (λ b. f (past_instance b)))
behind (at_made h) f = at_made (behind h (λ b. f (past_made b)))
behind (at_known h) f = at_known (behind h (λ b. f (past_known b)))
behind (at_treated h) f = at_treated (behind h (λ b. f (past_treated b)))

-- what is agreed of conditions is of those in front, and of those behind
pub agree_left : {k m : Kept} (xs ys : List Condition) → Agreed k m (xs ++ ys) → Agreed k m xs
agree_left [] ys a = no_more
agree_left (same t u ∷ xs) ys (past_same a) = past_same (agree_left xs ys a)
agree_left (instance s t ∷ xs) ys (past_instance a) = past_instance (agree_left xs ys a)
agree_left (made n t ∷ xs) ys (past_made a) = past_made (agree_left xs ys a)
agree_left (known t ∷ xs) ys (past_known a) = past_known (agree_left xs ys a)
agree_left (demand s p d ∷ xs) ys (kept_alike e a) = kept_alike e (agree_left xs ys a)
agree_left (treated n e ∷ xs) ys (past_treated a) = past_treated (agree_left xs ys a)

pub agree_right : {k m : Kept} (xs ys : List Condition) → Agreed k m (xs ++ ys) → Agreed k m ys
agree_right [] ys a = a
agree_right (same t u ∷ xs) ys (past_same a) = agree_right xs ys a
agree_right (instance s t ∷ xs) ys (past_instance a) = agree_right xs ys a
agree_right (made n t ∷ xs) ys (past_made a) = agree_right xs ys a
agree_right (known t ∷ xs) ys (past_known a) = agree_right xs ys a
agree_right (demand s p d ∷ xs) ys (kept_alike e a) = agree_right xs ys a
agree_right (treated n e ∷ xs) ys (past_treated a) = agree_right xs ys a

-- at the first one
pub agree_first : {k m : Kept} (s : Site) (p : Place) (d : Demand) (cs : List Condition) → Agreed k m (demand s p d ∷ cs) → k s ≡ m s
agree_first s p d cs (kept_alike e a) = e

-- what depends on a test that comes out alike
pub if_alike : {k m : Kept} (a b : Bool) {xs ys us vs : List Condition} → a ≡ b → Together k m xs us → Together k m ys vs → Together k m (if a then xs else ys) (if b then us else vs)
if_alike true true e h g = h
if_alike false false e h g = g
if_alike true false e h g = absurd (cc)
if_alike false true e h g = absurd (cc)

-- what is made of equal things
pub along : {k m : Kept} {A : Type 0} (f g : A → List Condition) {a b : A} → a ≡ b → Together k m (f a) (g a) → Together k m (f a) (g b)
along {k} {m} f g {a} e h = subst (λ z. Together k m (f a) (g z)) e h
