-- What is carried says which demands are kept, and that the types are most general.
use Rattle.std.proofs.Common.{◌⊎◌, ◌≢◌, ◌≡◌, ◌∙◌, ◌++◌, inl, inr, ℕ, Bool, true, false, if◌then◌else◌, List, [], ◌∷◌, take, Some, sym, ap, subst, append_assoc, suc, refl}
use Rattle.type_model.specs.Substitutions.{apply}
use Rattle.typing_model.specs.Demands.{Site, same_site, Condition, same, instance, made, known, demand, treated, AllHold}
use Rattle.typing_model.specs.Typings.{conditions_up_to}
use Rattle.typing_model.specs.Contexts.{Context}
use Rattle.type_nodes.specs.Nodes.{IsRanked}
use Rattle.type_nodes.specs.Readings.{Types}
use Rattle.type_nodes.proofs.Identity.{identity, identity_determines}
use Rattle.typing_conditions.specs.Sights.{Sight, Letters, number_in}
use Rattle.typing_conditions.specs.Frames.{Frame}
use Rattle.typing_conditions.specs.Judging.{Judgement, judgements, AreKept, FallsShort, judged_at}
use Rattle.typing_conditions.specs.Carrying.{Asks, Scope, HoldsWritten, Enters, Carried}
use Rattle.typing_conditions.proofs.Judged.{judged_kept}

yes_no : true ≡ false → ⊥
yes_no e = absurd (cc)

head_same : (x y : Judgement) (xs ys : List Judgement) → x ∷ xs ≡ y ∷ ys → x ≡ y
head_same x y xs ys e = cc

tail_same : (x y : Judgement) (xs ys : List Judgement) → x ∷ xs ≡ y ∷ ys → xs ≡ ys
tail_same x y xs ys e = cc

-- a first difference is one
apart : (x y closing : Bool) → ((x ≡ false) × (y ≡ true)) ⊎ ((closing ≡ true) × (x ≢ y)) → x ≡ y → ⊥
apart x y closing (inl (e, f)) alike = yes_no (sym f ∙ sym alike ∙ e)
apart x y closing (inr (e, other)) alike = other alike

-- one list can't both keep first what another doesn't, and fall short of it
no_both : (p q : List Judgement) (s t : Site) (x y closing : Bool) (l r m n : List Judgement) → ((x ≡ false) × (y ≡ true)) ⊎ ((closing ≡ true) × (x ≢ y)) →
    p ++ (judged_at s true false) ∷ l ≡ q ++ (judged_at t x closing) ∷ m → p ++ (judged_at s false false) ∷ r ≡ q ++ (judged_at t y closing) ∷ n → ⊥
no_both [] [] s t x y closing l r m n (inl (e', f')) e f = yes_no (ap (λ (j : Judgement). j.kept) (head_same (judged_at s true false) (judged_at t x closing) l m e) ∙ e')
no_both [] [] s t x y closing l r m n (inr (e', f')) e f = yes_no (sym (ap (λ (j : Judgement). j.closing) (head_same (judged_at s true false) (judged_at t x closing) l m e) ∙ e'))
no_both [] (z ∷ q) s t x y closing l r m n why e f =
    yes_no (ap (λ (j : Judgement). j.kept) (head_same (judged_at s true false) z l (q ++ (judged_at t x closing) ∷ m) e ∙ sym (head_same (judged_at s false false) z r (q ++ (judged_at t y closing) ∷ n) f)))
no_both (z ∷ p) [] s t x y closing l r m n why e f =
    apart x y closing why (ap (λ (j : Judgement). j.kept) (sym (head_same z (judged_at t x closing) (p ++ (judged_at s true false) ∷ l) m e) ∙ head_same z (judged_at t y closing) (p ++ (judged_at s false false) ∷ r) n f))
no_both (z ∷ p) (w ∷ q) s t x y closing l r m n why e f =
    no_both p q s t x y closing l r m n why (tail_same z w (p ++ (judged_at s true false) ∷ l) (q ++ (judged_at t x closing) ∷ m) e) (tail_same z w (p ++ (judged_at s false false) ∷ r) (q ++ (judged_at t y closing) ∷ n) f)

not_same : (p : List Judgement) (s : Site) (l r : List Judgement) → p ++ (judged_at s true false) ∷ l ≡ p ++ (judged_at s false false) ∷ r → ⊥
not_same [] s l r e = yes_no (ap (λ (j : Judgement). j.kept) (head_same (judged_at s true false) (judged_at s false false) l r e))
not_same (x ∷ p) s l r e = not_same p s l r (tail_same x x (p ++ (judged_at s true false) ∷ l) (p ++ (judged_at s false false) ∷ r) e)

-- A demand that wasn't kept, and isn't that a body closes: no types that fit meet the conditions up to it, together with the demands kept before it,
-- whatever is kept after it.
pub refused : {F : Frame} {scope : Scope} {asks : Asks} {a b : Sight} {G H : Letters} (p : Carried F scope asks a G b H) (before left right : List Judgement) (s : Site) → p.judged ≡ before ++ (judged_at s false false) ∷ right →
    HoldsWritten scope b → (k : ℕ) (V : Types) (c : Context) → Enters F scope a G V c → judgements c.kept (take k (asks c)) ≡ before ++ (judged_at s true false) ∷ left → AllHold c.kept (take k (asks c)) → ⊥
refused p before left right s told named k V c e judged h =
    elim (p.first named k V c e h) [
      | inl starts ↦ not_same before s (left ++ starts.rest) right (sym (append_assoc before ((judged_at s true false) ∷ left) starts.rest) ∙ ap (λ js. js ++ starts.rest) (sym judged) ∙ sym starts.split ∙ told)
      | inr short ↦ no_both before short.before s short.site short.mine short.theirs short.closing left right short.left short.right short.why (sym judged ∙ short.short) (sym told ∙ short.full)
    ]

-- the conditions up to a demand are the first ones
pub first_up_to : (s : Site) (cs : List Condition) → (k : ℕ) × (conditions_up_to s cs ≡ take k cs)
first_up_to s [] = (0, refl)
first_up_to s (same t u ∷ cs) = let (k, e) = first_up_to s cs in (suc k, ap (λ xs. same t u ∷ xs) e)
first_up_to s (instance sc t ∷ cs) = let (k, e) = first_up_to s cs in (suc k, ap (λ xs. instance sc t ∷ xs) e)
first_up_to s (made n t ∷ cs) = let (k, e) = first_up_to s cs in (suc k, ap (λ xs. made n t ∷ xs) e)
first_up_to s (known t ∷ cs) = let (k, e) = first_up_to s cs in (suc k, ap (λ xs. known t ∷ xs) e)
first_up_to s (treated n env ∷ cs) = let (k, e) = first_up_to s cs in (suc k, ap (λ xs. treated n env ∷ xs) e)
first_up_to s (demand t at d ∷ cs) = by (same_site s t) (first_up_to s cs)
  where
    by : (b : Bool) → (k : ℕ) × (conditions_up_to s cs ≡ take k cs) → (k : ℕ) × (demand t at d ∷ elim b [ true ↦ [] | false ↦ conditions_up_to s cs ] ≡ take k (demand t at d ∷ cs))
    by true h = (1, refl)
    by false (k, e) = (suc k, ap (λ xs. demand t at d ∷ xs) e)

-- So a demand that wasn't kept isn't met up to it, in the words of the definitions.
pub refused_up_to : {F : Frame} {scope : Scope} {asks : Asks} {a b : Sight} {G H : Letters} (p : Carried F scope asks a G b H) (before left right : List Judgement) (s : Site) → p.judged ≡ before ++ judged_at s false false ∷ right → HoldsWritten scope b → (V : Types) (c : Context) →
    Enters F scope a G V c → judgements c.kept (conditions_up_to s (asks c)) ≡ before ++ judged_at s true false ∷ left → AllHold c.kept (conditions_up_to s (asks c)) → ⊥
refused_up_to {asks = asks} p before left right s told named V c e judged h =
    let (k, eq) = first_up_to s (asks c) in refused p before left right s told named k V c e (ap (judgements c.kept) (sym eq) ∙ judged) (subst (AllHold c.kept) eq h)

-- the demands that were kept, by the judgements
abbrev pub kept_of : List Judgement → Site → Bool
kept_of [] s = false
kept_of (j ∷ js) s = if same_site s j.site then j.kept else kept_of js s

kept_there : (kept : Site → Bool) (q : List Judgement) (s : Site) (t closing : Bool) (rest : List Judgement) → AreKept kept (q ++ (judged_at s t closing) ∷ rest) → kept s ≡ t
kept_there kept [] s t closing rest h = h.0
kept_there kept (x ∷ q) s t closing rest h = kept_there kept q s t closing rest h.1

-- where the same demands are kept nothing falls short
pub never_short : (kept : Site → Bool) (cs : List Condition) (js : List Judgement) → AreKept kept js → FallsShort (judgements kept cs) js → ⊥
never_short kept cs js k f =
    apart f.mine f.theirs f.closing f.why
    (sym (kept_there kept f.before f.site f.mine f.closing f.left (subst (AreKept kept) f.short (judged_kept kept cs))) ∙ kept_there kept f.before f.site f.theirs f.closing f.right (subst (AreKept kept) f.full k))

-- The most general types: each choice that meets the conditions and keeps the same demands has, at what is recorded, types that come from them by one substitution.
pub general : {F : Frame} {scope : Scope} {asks : Asks} {a b : Sight} {G H : Letters} (p : Carried F scope asks a G b H) (rank : ℕ → ℕ) → IsRanked b.nodes rank → HoldsWritten scope b → (V : Types) (c : Context) → AreKept c.kept p.judged →
    Enters F scope a G V c → AllHold c.kept (asks c) → (W : Types) × ((i k m : ℕ) → b.types i k ≡ Some m → c.chosen.type_at (number_in i k) ≡ apply W (identity rank b.nodes m))
general {asks = asks} {b = b} p rank ranked named V c kept e h =
    elim (p.complete named V c e h) [
      | inl goes ↦ (goes.types, λ j k m there. goes.on.agrees.recorded j k m there ∙ identity_determines b.nodes rank goes.types goes.on.fits m)
      | inr short ↦ absurd (never_short c.kept (asks c) p.judged kept short)
    ]
