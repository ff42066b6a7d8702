-- Judgements by their sites.
use Rattle.std.proofs.Common.{◌≡◌, ◌∙◌, inl, inr, Bool, true, false, ◌||◌, ◌==◌, Option, Some, None, List, [], ◌∷◌, ◌++◌, refl, sym, ap, subst, append_assoc, if◌then◌else◌}
use Rattle.std.proofs.lemmas.Bool.{eqb-true}
use Rattle.type_model.proofs.Applying.{or_cases, or_left, or_right, eqb_same}
use Rattle.signature_model.specs.Signatures.{Signature}
use Rattle.signature_model.specs.Entries.{Environment}
use Rattle.typing_model.specs.Demands.{Site, same_site, Demand, equal, test, agrees, matches, closes, Condition, same, instance, made, known, demand, treated, AllHold, sites_of, demand_of}
use Rattle.typing_model.specs.Typings.{is_site_among, sites_before, conditions_up_to, body_in, body_asked, body_at}
use Rattle.typing_laws.proofs.Bools.{no_yes, and_cases, and_both}
use Rattle.typing_conditions.specs.Judging.{Judgement, judged_at, is_closing, judgements, AreKept}
use Rattle.typing_conditions.proofs.Adequate.{kept_of}
use Rattle.text_laws.specs.Texts.{sites_judged, AreApart, NoneCloses}

pub one_site : (s t : Site) → same_site s t ≡ true → s ≡ t
one_site s t e = let p = and_cases (s.node == t.node) (s.number == t.number) e in (λ i. record { node = eqb-true s.node t.node p.0 i; number = eqb-true s.number t.number p.1 i })

pub same_as_itself : (s : Site) → same_site s s ≡ true
same_as_itself s = and_both (s.node == s.node) (s.number == s.number) (eqb_same s.node) (eqb_same s.number)

-- the sites that are judged are those of the demands
pub sites_of_judged : (kept : Site → Bool) (cs : List Condition) → sites_judged (judgements kept cs) ≡ sites_of cs
sites_of_judged kept [] = refl
sites_of_judged kept (same t u ∷ cs) = sites_of_judged kept cs
sites_of_judged kept (instance s t ∷ cs) = sites_of_judged kept cs
sites_of_judged kept (made n t ∷ cs) = sites_of_judged kept cs
sites_of_judged kept (known t ∷ cs) = sites_of_judged kept cs
sites_of_judged kept (demand s at d ∷ cs) = ap (λ xs. s ∷ xs) (sites_of_judged kept cs)
sites_of_judged kept (treated n env ∷ cs) = sites_of_judged kept cs

-- a site between others is one of them
pub among_middle : (s t : Site) (kept closing : Bool) (before after : List Judgement) → same_site s t ≡ true → is_site_among s (sites_judged (before ++ judged_at t kept closing ∷ after)) ≡ true
among_middle s t kept closing [] after e = or_left (same_site s t) (is_site_among s (sites_judged after)) e
among_middle s t kept closing (j ∷ before) after e = or_right (same_site s j.site) (is_site_among s (sites_judged (before ++ judged_at t kept closing ∷ after))) (among_middle s t kept closing before after e)

-- what is judged once is kept as it is judged
pub kept_there : (s : Site) (kept closing : Bool) (before after : List Judgement) → AreApart (before ++ judged_at s kept closing ∷ after) → kept_of (before ++ judged_at s kept closing ∷ after) s ≡ kept
kept_there s kept closing [] after apart = ap (λ b. if b then kept else kept_of after s) (same_as_itself s)
kept_there s kept closing (j ∷ before) after apart = by (same_site s j.site) refl (kept_there s kept closing before after apart.1)
  where
    by : (b : Bool) → same_site s j.site ≡ b → kept_of (before ++ judged_at s kept closing ∷ after) s ≡ kept → kept_of (j ∷ before ++ judged_at s kept closing ∷ after) s ≡ kept
    by true e later = absurd (no_yes (sym apart.0 ∙ subst (λ x. is_site_among x (sites_judged (before ++ judged_at s kept closing ∷ after)) ≡ true) (one_site s j.site e) (among_middle s s kept closing before after (same_as_itself s))))
    by false e later = ap (λ b. if b then j.kept else kept_of (before ++ judged_at s kept closing ∷ after) s) e ∙ later

pub kept_as_judged : (before js : List Judgement) → AreApart (before ++ js) → AreKept (kept_of (before ++ js)) js
kept_as_judged before [] apart = tt
kept_as_judged before (j ∷ js) apart =
    let e : (before ++ j ∷ []) ++ js ≡ before ++ j ∷ js = append_assoc before (j ∷ []) js in
    (kept_there j.site j.kept j.closing before js apart, subst (λ zs. AreKept (kept_of zs) js) e (kept_as_judged (before ++ j ∷ []) js (subst AreApart (sym e) apart)))

-- what is kept was judged
pub kept_among : (js : List Judgement) (s : Site) → kept_of js s ≡ true → is_site_among s (sites_judged js) ≡ true
kept_among [] s h = absurd (no_yes h)
kept_among (j ∷ js) s h = by (same_site s j.site) (kept_among js s) h
  where
    by : (b : Bool) → (kept_of js s ≡ true → is_site_among s (sites_judged js) ≡ true) → (if b then j.kept else kept_of js s) ≡ true → (b || is_site_among s (sites_judged js)) ≡ true
    by true further h = refl
    by false further h = further h

-- sets that keep what was judged agree on it
pub kept_alike : (k m : Site → Bool) (js : List Judgement) (s : Site) → AreKept k js → AreKept m js → is_site_among s (sites_judged js) ≡ true → k s ≡ m s
kept_alike k m [] s p q h = absurd (no_yes h)
kept_alike k m (j ∷ js) s p q h = elim (or_cases (same_site s j.site) (is_site_among s (sites_judged js)) h) [
  | inl e ↦ let f = one_site s j.site e in ap k f ∙ p.0 ∙ sym q.0 ∙ ap m (sym f)
  | inr i ↦ kept_alike k m js s p.1 q.1 i
]

-- a site that isn't before another comes after it
pub comes_before : (s t : Site) (kept closing : Bool) (before after : List Judgement) → same_site s t ≡ false → is_site_among s (sites_judged (before ++ judged_at t kept closing ∷ after)) ≡ true →
    is_site_among t (sites_before s (sites_judged (before ++ judged_at t kept closing ∷ after))) ≡ false → is_site_among s (sites_judged before) ≡ true
comes_before s t kept closing [] after apart there late =
    absurd (no_yes (sym late ∙ ap (λ b. is_site_among t (elim b [ true ↦ [] | false ↦ t ∷ sites_before s (sites_judged after) ])) apart ∙ or_left (same_site t t) (is_site_among t (sites_before s (sites_judged after))) (same_as_itself t)))
comes_before s t kept closing (j ∷ before) after apart there late = by (same_site s j.site) (comes_before s t kept closing before after apart) there late
  where
    rest : List Site
    rest = sites_judged (before ++ judged_at t kept closing ∷ after)

    or_not : (b c : Bool) → (b || c) ≡ false → c ≡ false
    or_not true c e = absurd (no_yes (sym e))
    or_not false c e = e

    by : (b : Bool) → (is_site_among s rest ≡ true → is_site_among t (sites_before s rest) ≡ false → is_site_among s (sites_judged before) ≡ true) → (b || is_site_among s rest) ≡ true →
        is_site_among t (elim b [ true ↦ [] | false ↦ j.site ∷ sites_before s rest ]) ≡ false → (b || is_site_among s (sites_judged before)) ≡ true
    by true further h l = refl
    by false further h l = further h (or_not (same_site t j.site) (is_site_among t (sites_before s rest)) l)

-- up to a demand that is made, it comes last
pub up_to_asked : (kept : Site → Bool) (s : Site) (cs : List Condition) → is_site_among s (sites_of cs) ≡ true → (before : List Judgement) × (closing : Bool) × (judgements kept (conditions_up_to s cs) ≡ before ++ judged_at s (kept s) closing ∷ [])
up_to_asked kept s [] h = absurd (no_yes h)
up_to_asked kept s (same t u ∷ cs) h = up_to_asked kept s cs h
up_to_asked kept s (instance sc t ∷ cs) h = up_to_asked kept s cs h
up_to_asked kept s (made n t ∷ cs) h = up_to_asked kept s cs h
up_to_asked kept s (known t ∷ cs) h = up_to_asked kept s cs h
up_to_asked kept s (treated n env ∷ cs) h = up_to_asked kept s cs h
up_to_asked kept s (demand t at d ∷ cs) h = by (same_site s t) refl (up_to_asked kept s cs) h
  where
    by : (b : Bool) → same_site s t ≡ b → (is_site_among s (sites_of cs) ≡ true → (before : List Judgement) × (closing : Bool) × (judgements kept (conditions_up_to s cs) ≡ before ++ judged_at s (kept s) closing ∷ [])) →
        (b || is_site_among s (sites_of cs)) ≡ true → (before : List Judgement) × (closing : Bool) × (judged_at t (kept t) (is_closing d) ∷ judgements kept (elim b [ true ↦ [] | false ↦ conditions_up_to s cs ]) ≡ before ++ judged_at s (kept s) closing ∷ [])
    by true e further i = ([], is_closing d, ap (λ x. judged_at x (kept x) (is_closing d) ∷ []) (sym (one_site s t e)))
    by false e further i = let (before, closing, last) = further i in (judged_at t (kept t) (is_closing d) ∷ before, closing, ap (λ js. judged_at t (kept t) (is_closing d) ∷ js) last)

-- up to a demand that isn't made, all is asked
pub up_to_all : (s : Site) (cs : List Condition) → is_site_among s (sites_of cs) ≡ false → conditions_up_to s cs ≡ cs
up_to_all s [] h = refl
up_to_all s (same t u ∷ cs) h = ap (λ xs. same t u ∷ xs) (up_to_all s cs h)
up_to_all s (instance sc t ∷ cs) h = ap (λ xs. instance sc t ∷ xs) (up_to_all s cs h)
up_to_all s (made n t ∷ cs) h = ap (λ xs. made n t ∷ xs) (up_to_all s cs h)
up_to_all s (known t ∷ cs) h = ap (λ xs. known t ∷ xs) (up_to_all s cs h)
up_to_all s (treated n env ∷ cs) h = ap (λ xs. treated n env ∷ xs) (up_to_all s cs h)
up_to_all s (demand t at d ∷ cs) h = by (same_site s t) (up_to_all s cs) h
  where
    by : (b : Bool) → (is_site_among s (sites_of cs) ≡ false → conditions_up_to s cs ≡ cs) → (b || is_site_among s (sites_of cs)) ≡ false → demand t at d ∷ elim b [ true ↦ [] | false ↦ conditions_up_to s cs ] ≡ demand t at d ∷ cs
    by true further i = absurd (no_yes (sym i))
    by false further i = ap (λ xs. demand t at d ∷ xs) (further i)

-- conditions hold where fewer demands are kept
pub hold_under : (k m : Site → Bool) → ((x : Site) → m x ≡ true → k x ≡ true) → (cs : List Condition) → AllHold k cs → AllHold m cs
hold_under k m fewer [] h = tt
hold_under k m fewer (same t u ∷ cs) h = (h.0, hold_under k m fewer cs h.1)
hold_under k m fewer (instance sc t ∷ cs) h = (h.0, hold_under k m fewer cs h.1)
hold_under k m fewer (made n t ∷ cs) h = (h.0, hold_under k m fewer cs h.1)
hold_under k m fewer (known t ∷ cs) h = (h.0, hold_under k m fewer cs h.1)
hold_under k m fewer (treated n env ∷ cs) h = (h.0, hold_under k m fewer cs h.1)
hold_under k m fewer (demand t at d ∷ cs) h = (λ e. h.0 (fewer t e), hold_under k m fewer cs h.1)

-- whether there is a body
abbrev pub has_body : Option (Environment × Signature) → Bool
has_body o = elim o [ None ↦ false | Some b ↦ true ]

body_closes : (d : Demand) → has_body (body_in d) ≡ is_closing d
body_closes (equal t u) = refl
body_closes (test c b) = refl
body_closes (agrees c n s t) = refl
body_closes (matches a t) = refl
body_closes (closes e s) = refl

-- where no demand is a closing no site has one
pub no_body : (kept : Site → Bool) (s : Site) (cs : List Condition) → NoneCloses (judgements kept cs) → has_body (body_at s cs) ≡ false
no_body kept s [] h = refl
no_body kept s (same t u ∷ cs) h = no_body kept s cs h
no_body kept s (instance sc t ∷ cs) h = no_body kept s cs h
no_body kept s (made n t ∷ cs) h = no_body kept s cs h
no_body kept s (known t ∷ cs) h = no_body kept s cs h
no_body kept s (treated n env ∷ cs) h = no_body kept s cs h
no_body kept s (demand t at d ∷ cs) h = by (same_site s t) (no_body kept s cs h.1)
  where
    by : (b : Bool) → has_body (body_at s cs) ≡ false → has_body (body_asked (if b then Some (at, d) else demand_of s cs)) ≡ false
    by true g = body_closes d ∙ h.0
    by false g = g
