-- What is asked before the demand of a site.
use Rattle.std.proofs.Common.{◌≡◌, ◌∙◌, ℕ, zero, suc, Bool, true, false, ◌||◌, List, [], ◌∷◌, take, length, Some, refl, sym, ap, subst, if◌then◌else◌}
use Rattle.std.specs.Prelude.{slice_get}
use Rattle.type_model.proofs.Applying.{or_left, or_right}
use Rattle.tree_model.specs.Trees.{Place}
use Rattle.typing_model.specs.Demands.{Site, same_site, Demand, Condition, same, instance, made, known, demand, treated, AllHold, sites_of, demand_of}
use Rattle.typing_model.specs.Typings.{is_site_among, sites_before, conditions_before, conditions_up_to}
use Rattle.typing_laws.proofs.Bools.{no_yes}
use Rattle.typing_conditions.specs.Judging.{Judgement, judged_at, is_closing, judgements}
use Rattle.text_laws.specs.Texts.{sites_judged, AreApart}
use Rattle.text_laws.proofs.Sites.{one_site, same_as_itself}
use Rattle.text_laws.proofs.Kept.{fails}

-- what is asked before a demand is asked before it up to the demand
pub before_of_up_to : (s : Site) (cs : List Condition) → conditions_before s (conditions_up_to s cs) ≡ conditions_before s cs
before_of_up_to s [] = refl
before_of_up_to s (same t u ∷ cs) = ap (λ xs. same t u ∷ xs) (before_of_up_to s cs)
before_of_up_to s (instance sc t ∷ cs) = ap (λ xs. instance sc t ∷ xs) (before_of_up_to s cs)
before_of_up_to s (made n t ∷ cs) = ap (λ xs. made n t ∷ xs) (before_of_up_to s cs)
before_of_up_to s (known t ∷ cs) = ap (λ xs. known t ∷ xs) (before_of_up_to s cs)
before_of_up_to s (treated n env ∷ cs) = ap (λ xs. treated n env ∷ xs) (before_of_up_to s cs)
before_of_up_to s (demand t at d ∷ cs) = by (same_site s t) refl (before_of_up_to s cs)
  where
    by : (b : Bool) → same_site s t ≡ b → conditions_before s (conditions_up_to s cs) ≡ conditions_before s cs → conditions_before s (conditions_up_to s (demand t at d ∷ cs)) ≡ conditions_before s (demand t at d ∷ cs)
    by true e rest = ap (λ b. elim b [ true ↦ [] | false ↦ demand t at d ∷ conditions_before s (elim (same_site s t) [ true ↦ [] | false ↦ conditions_up_to s cs ]) ]) e ∙ sym (ap (λ b. elim b [ true ↦ [] | false ↦ demand t at d ∷ conditions_before s cs ]) e)
    by false e rest =
        ap (λ b. elim b [ true ↦ [] | false ↦ demand t at d ∷ conditions_before s (elim (same_site s t) [ true ↦ [] | false ↦ conditions_up_to s cs ]) ]) e
        ∙ ap (λ b. demand t at d ∷ conditions_before s (elim b [ true ↦ [] | false ↦ conditions_up_to s cs ])) e
        ∙ ap (λ xs. demand t at d ∷ xs) rest
        ∙ sym (ap (λ b. elim b [ true ↦ [] | false ↦ demand t at d ∷ conditions_before s cs ]) e)

-- and the demand is there
pub demand_of_up_to : (s : Site) (cs : List Condition) → demand_of s (conditions_up_to s cs) ≡ demand_of s cs
demand_of_up_to s [] = refl
demand_of_up_to s (same t u ∷ cs) = demand_of_up_to s cs
demand_of_up_to s (instance sc t ∷ cs) = demand_of_up_to s cs
demand_of_up_to s (made n t ∷ cs) = demand_of_up_to s cs
demand_of_up_to s (known t ∷ cs) = demand_of_up_to s cs
demand_of_up_to s (treated n env ∷ cs) = demand_of_up_to s cs
demand_of_up_to s (demand t at d ∷ cs) = by (same_site s t) (demand_of_up_to s cs)
  where
    by : (b : Bool) → demand_of s (conditions_up_to s cs) ≡ demand_of s cs → (if b then Some (at, d) else demand_of s (elim b [ true ↦ [] | false ↦ conditions_up_to s cs ])) ≡ (if b then Some (at, d) else demand_of s cs)
    by true rest = refl
    by false rest = rest

-- the sites before it
pub sites_before_of : (s : Site) (cs : List Condition) → sites_of (conditions_before s cs) ≡ sites_before s (sites_of cs)
sites_before_of s [] = refl
sites_before_of s (same t u ∷ cs) = sites_before_of s cs
sites_before_of s (instance sc t ∷ cs) = sites_before_of s cs
sites_before_of s (made n t ∷ cs) = sites_before_of s cs
sites_before_of s (known t ∷ cs) = sites_before_of s cs
sites_before_of s (treated n env ∷ cs) = sites_before_of s cs
sites_before_of s (demand t at d ∷ cs) = by (same_site s t) (sites_before_of s cs)
  where
    by : (b : Bool) → sites_of (conditions_before s cs) ≡ sites_before s (sites_of cs) → sites_of (elim b [ true ↦ [] | false ↦ demand t at d ∷ conditions_before s cs ]) ≡ elim b [ true ↦ [] | false ↦ t ∷ sites_before s (sites_of cs) ]
    by true rest = refl
    by false rest = ap (λ xs. t ∷ xs) rest

-- The demand of a site is at a place of conditions, and those before the place are the ones before it.
pub record IsAskedAt (s : Site) (cs : List Condition) : Type 0 where
  pub place : ℕ
  pub at : Place
  pub demands : Demand
  pub here : slice_get cs place ≡ Some (demand s at demands)
  pub before : conditions_before s cs ≡ take place cs
  pub of_site : demand_of s cs ≡ Some (at, demands)

asked_later : {s : Site} {cs : List Condition} (c : Condition) → conditions_before s (c ∷ cs) ≡ c ∷ conditions_before s cs → demand_of s (c ∷ cs) ≡ demand_of s cs → IsAskedAt s cs → IsAskedAt s (c ∷ cs)
asked_later c before of_site a = record { place = suc a.place; at = a.at; demands = a.demands; here = a.here; before = before ∙ ap (λ xs. c ∷ xs) a.before; of_site = of_site ∙ a.of_site }

pub asked_at : (s : Site) (cs : List Condition) → is_site_among s (sites_of cs) ≡ true → IsAskedAt s cs
asked_at s [] h = absurd (no_yes h)
asked_at s (same t u ∷ cs) h = asked_later (same t u) refl refl (asked_at s cs h)
asked_at s (instance sc t ∷ cs) h = asked_later (instance sc t) refl refl (asked_at s cs h)
asked_at s (made n t ∷ cs) h = asked_later (made n t) refl refl (asked_at s cs h)
asked_at s (known t ∷ cs) h = asked_later (known t) refl refl (asked_at s cs h)
asked_at s (treated n env ∷ cs) h = asked_later (treated n env) refl refl (asked_at s cs h)
asked_at s (demand t at d ∷ cs) h = by (same_site s t) refl h (asked_at s cs)
  where
    by : (b : Bool) → same_site s t ≡ b → (b || is_site_among s (sites_of cs)) ≡ true → (is_site_among s (sites_of cs) ≡ true → IsAskedAt s cs) → IsAskedAt s (demand t at d ∷ cs)
    by true e i further = record {
      place = zero;
      at = at;
      demands = d;
      here = ap (λ x. Some (demand x at d)) (sym (one_site s t e));
      before = ap (λ b. elim b [ true ↦ [] | false ↦ demand t at d ∷ conditions_before s cs ]) e;
      of_site = ap (λ b. if b then Some (at, d) else demand_of s cs) e;
    }
    by false e i further = asked_later (demand t at d) (ap (λ b. elim b [ true ↦ [] | false ↦ demand t at d ∷ conditions_before s cs ]) e) (ap (λ b. if b then Some (at, d) else demand_of s cs) e) (further i)

-- a demand is judged at the place that has as many judgements before it as there are demands before it
pub judged_there : (kept : Site → Bool) (cs : List Condition) (k : ℕ) (s : Site) (at : Place) (d : Demand) → slice_get cs k ≡ Some (demand s at d) → slice_get (judgements kept cs) (length (judgements kept (take k cs))) ≡ Some (judged_at s (kept s) (is_closing d))
judged_there kept [] k s at d e = absurd (cc)
judged_there kept (same t u ∷ cs) zero s at d e = absurd (cc)
judged_there kept (same t u ∷ cs) (suc k) s at d e = judged_there kept cs k s at d e
judged_there kept (instance sc t ∷ cs) zero s at d e = absurd (cc)
judged_there kept (instance sc t ∷ cs) (suc k) s at d e = judged_there kept cs k s at d e
judged_there kept (made n t ∷ cs) zero s at d e = absurd (cc)
judged_there kept (made n t ∷ cs) (suc k) s at d e = judged_there kept cs k s at d e
judged_there kept (known t ∷ cs) zero s at d e = absurd (cc)
judged_there kept (known t ∷ cs) (suc k) s at d e = judged_there kept cs k s at d e
judged_there kept (treated n env ∷ cs) zero s at d e = absurd (cc)
judged_there kept (treated n env ∷ cs) (suc k) s at d e = judged_there kept cs k s at d e
judged_there kept (demand t p q ∷ cs) zero s at d e = let site : t ≡ s = cc in let what : q ≡ d = cc in (λ i. Some (judged_at (site i) (kept (site i)) (is_closing (what i))))
judged_there kept (demand t p q ∷ cs) (suc k) s at d e = judged_there kept cs k s at d e

-- what is judged is among the sites
pub site_there : (js : List Judgement) (k : ℕ) (j : Judgement) → slice_get js k ≡ Some j → is_site_among j.site (sites_judged js) ≡ true
site_there [] k j e = absurd (cc)
site_there (x ∷ js) zero j e = let alike : x ≡ j = cc in or_left (same_site j.site x.site) (is_site_among j.site (sites_judged js)) (subst (λ (y : Judgement). same_site j.site y.site ≡ true) (sym alike) (same_as_itself j.site))
site_there (x ∷ js) (suc k) j e = or_right (same_site j.site x.site) (is_site_among j.site (sites_judged js)) (site_there js k j e)

-- where each is judged once, a site has one place
pub one_place : (js : List Judgement) → AreApart js → (i k : ℕ) (x y : Judgement) → slice_get js i ≡ Some x → slice_get js k ≡ Some y → x.site ≡ y.site → i ≡ k
one_place [] apart i k x y e f alike = absurd (cc)
one_place (j ∷ js) apart zero zero x y e f alike = refl
one_place (j ∷ js) apart zero (suc k) x y e f alike = let is : j ≡ x = cc in absurd (no_yes (sym apart.0 ∙ ap (λ (z : Judgement). is_site_among z.site (sites_judged js)) is ∙ ap (λ s. is_site_among s (sites_judged js)) alike ∙ site_there js k y f))
one_place (j ∷ js) apart (suc i) zero x y e f alike = let is : j ≡ y = cc in absurd (no_yes (sym apart.0 ∙ ap (λ (z : Judgement). is_site_among z.site (sites_judged js)) is ∙ ap (λ s. is_site_among s (sites_judged js)) (sym alike) ∙ site_there js i x e))
one_place (j ∷ js) apart (suc i) (suc k) x y e f alike = ap suc (one_place js apart.1 i k x y e f alike)

-- Where each demand is made once, what is before the place of a demand is what is asked before it.
pub before_at : (kept : Site → Bool) (s : Site) (cs : List Condition) (k : ℕ) (at : Place) (d : Demand) → AreApart (judgements kept cs) → slice_get cs k ≡ Some (demand s at d) → (conditions_before s cs ≡ take k cs) × (demand_of s cs ≡ Some (at, d))
before_at kept s [] k at d apart e = absurd (cc)
before_at kept s (same t u ∷ cs) zero at d apart e = absurd (cc)
before_at kept s (same t u ∷ cs) (suc k) at d apart e = let (f, g) = before_at kept s cs k at d apart e in (ap (λ xs. same t u ∷ xs) f, g)
before_at kept s (instance sc t ∷ cs) zero at d apart e = absurd (cc)
before_at kept s (instance sc t ∷ cs) (suc k) at d apart e = let (f, g) = before_at kept s cs k at d apart e in (ap (λ xs. instance sc t ∷ xs) f, g)
before_at kept s (made n t ∷ cs) zero at d apart e = absurd (cc)
before_at kept s (made n t ∷ cs) (suc k) at d apart e = let (f, g) = before_at kept s cs k at d apart e in (ap (λ xs. made n t ∷ xs) f, g)
before_at kept s (known t ∷ cs) zero at d apart e = absurd (cc)
before_at kept s (known t ∷ cs) (suc k) at d apart e = let (f, g) = before_at kept s cs k at d apart e in (ap (λ xs. known t ∷ xs) f, g)
before_at kept s (treated n env ∷ cs) zero at d apart e = absurd (cc)
before_at kept s (treated n env ∷ cs) (suc k) at d apart e = let (f, g) = before_at kept s cs k at d apart e in (ap (λ xs. treated n env ∷ xs) f, g)
before_at kept s (demand t p q ∷ cs) zero at d apart e =
    let site : t ≡ s = cc in
    let is : same_site s t ≡ true = subst (λ x. same_site s x ≡ true) (sym site) (same_as_itself s) in (
      ap (λ b. elim b [ true ↦ [] | false ↦ demand t p q ∷ conditions_before s cs ]) is,
      ap (λ b. if b then Some (p, q) else demand_of s cs) is ∙ (let place : p ≡ at = cc in let what : q ≡ d = cc in (λ i. Some (place i, what i))),
    )
before_at kept s (demand t p q ∷ cs) (suc k) at d apart e =
    let (f, g) = before_at kept s cs k at d apart.1 e in
    let other : same_site s t ≡ false = fails (same_site s t) (λ is. no_yes (sym apart.0 ∙ ap (λ x. is_site_among x (sites_judged (judgements kept cs))) (sym (one_site s t is)) ∙ site_there (judgements kept cs) (length (judgements kept (take k cs))) (judged_at s (kept s) (is_closing d)) (judged_there kept cs k s at d e))) in (
      ap (λ b. elim b [ true ↦ [] | false ↦ demand t p q ∷ conditions_before s cs ]) other ∙ ap (λ xs. demand t p q ∷ xs) f,
      ap (λ b. if b then Some (p, q) else demand_of s cs) other ∙ g,
    )

-- conditions hold under a set of kept demands that keeps no more of their demands
pub hold_of : (k m : Site → Bool) (cs : List Condition) → ((x : Site) → is_site_among x (sites_of cs) ≡ true → m x ≡ true → k x ≡ true) → AllHold k cs → AllHold m cs
hold_of k m [] fewer h = tt
hold_of k m (same t u ∷ cs) fewer h = (h.0, hold_of k m cs fewer h.1)
hold_of k m (instance sc t ∷ cs) fewer h = (h.0, hold_of k m cs fewer h.1)
hold_of k m (made n t ∷ cs) fewer h = (h.0, hold_of k m cs fewer h.1)
hold_of k m (known t ∷ cs) fewer h = (h.0, hold_of k m cs fewer h.1)
hold_of k m (treated n env ∷ cs) fewer h = (h.0, hold_of k m cs fewer h.1)
hold_of k m (demand t at d ∷ cs) fewer h = (
  λ e. h.0 (fewer t (or_left (same_site t t) (is_site_among t (sites_of cs)) (same_as_itself t)) e),
  hold_of k m cs (λ x i e. fewer x (or_right (same_site x t) (is_site_among x (sites_of cs)) i) e) h.1,
)
