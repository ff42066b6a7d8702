-- A text that makes each demand once was judged once at each site: so what was judged is what is kept.
use Rattle.std.proofs.Common.{◌≡◌, ◌∙◌, Bool, true, false, ◌||◌, if◌then◌else◌, List, [], ◌∷◌, ◌++◌, refl, sym, ap, subst, append_assoc}
use Rattle.type_model.proofs.Applying.{or_left, or_right}
use Rattle.tree_model.specs.Trees.{Tree}
use Rattle.signature_model.specs.Entries.{Environment}
use Rattle.typing_model.specs.Demands.{Site, same_site, Condition, same, instance, made, known, demand, treated, sites_of}
use Rattle.typing_model.specs.Typings.{is_site_among, conditions_of}
use Rattle.typing_model.specs.Plain.{has_values_alone}
use Rattle.typing_laws.proofs.Bools.{no_yes}
use Rattle.typing_conditions.specs.Judging.{Judgement, judgements, Follows}
use Rattle.typing_conditions.proofs.Adequate.{kept_of}
use Rattle.site_laws.proofs.Sites.{Distinct}
use Rattle.site_laws.proofs.Texts.{AreSmall, values_sites_apart}
use Rattle.demand_laws.proofs.Bare.{neither}
use Rattle.text_laws.specs.Texts.{sites_judged, AreApart, AsksOnce}
use Rattle.text_laws.proofs.Sites.{one_site, same_as_itself, sites_of_judged}

-- where each site stands once among those that are judged, each is judged once
apart_here : (js : List Judgement) → Distinct (sites_judged js) → AreApart js
apart_here [] h = tt
apart_here (j ∷ js) h = (h.0, apart_here js h.1)

-- and the other way
distinct_here : (js : List Judgement) → AreApart js → Distinct (sites_judged js)
distinct_here [] h = tt
distinct_here (j ∷ js) h = (h.0, distinct_here js h.1)

sites_all : (xs ys : List Judgement) → sites_judged (xs ++ ys) ≡ sites_judged xs ++ sites_judged ys
sites_all [] ys = refl
sites_all (x ∷ xs) ys = ap (λ ss. x.site ∷ ss) (sites_all xs ys)

-- a site between others is one of them
in_middle : (ss : List Site) (s : Site) (ts : List Site) → is_site_among s (ss ++ s ∷ ts) ≡ true
in_middle [] s ts = or_left (same_site s s) (is_site_among s ts) (same_as_itself s)
in_middle (x ∷ ss) s ts = or_right (same_site s x) (is_site_among s (ss ++ s ∷ ts)) (in_middle ss s ts)

-- a site that stands once among others isn't one of those before it
not_before : (ss : List Site) (s : Site) (ts : List Site) → Distinct (ss ++ s ∷ ts) → is_site_among s ss ≡ false
not_before [] s ts h = refl
not_before (x ∷ ss) s ts h = by (same_site s x) refl (not_before ss s ts h.1)
  where
    by : (t : Bool) → same_site s x ≡ t → is_site_among s ss ≡ false → (same_site s x || is_site_among s ss) ≡ false
    by true e none = absurd (no_yes (sym h.0 ∙ subst (λ z. is_site_among z (ss ++ s ∷ ts) ≡ true) (one_site s x e) (in_middle ss s ts)))
    by false e none = (λ i. e i || none i)

-- the first judgement at a site is what is kept there
kept_first : (before : List Judgement) (j : Judgement) (js : List Judgement) → is_site_among j.site (sites_judged before) ≡ false → kept_of (before ++ j ∷ js) j.site ≡ j.kept
kept_first [] j js none = ap (λ t. if t then j.kept else kept_of js j.site) (same_as_itself j.site)
kept_first (b ∷ before) j js none =
    let (other, later) = neither (same_site j.site b.site) (is_site_among j.site (sites_judged before)) none in
    ap (λ t. if t then b.kept else kept_of (before ++ j ∷ js) j.site) other ∙ kept_first before j js later

-- Where each demand is made once, the sites of judgements that follow the demands, as they are kept by these, are those of the demands.
sites_follow : (all before js : List Judgement) (cs : List Condition) → all ≡ before ++ js → Follows (kept_of all) cs js → Distinct (sites_judged before ++ sites_of cs) → sites_judged js ≡ sites_of cs
sites_follow all before js [] e p apart = ap sites_judged p
sites_follow all before js (same t u ∷ cs) e p apart = sites_follow all before js cs e p apart
sites_follow all before js (instance s t ∷ cs) e p apart = sites_follow all before js cs e p apart
sites_follow all before js (made n t ∷ cs) e p apart = sites_follow all before js cs e p apart
sites_follow all before js (known t ∷ cs) e p apart = sites_follow all before js cs e p apart
sites_follow all before js (treated n env ∷ cs) e p apart = sites_follow all before js cs e p apart
sites_follow all before [] (demand s at d ∷ cs) e p apart = absurd p
sites_follow all before (j ∷ js) (demand s at d ∷ cs) e p apart =
    let none = subst (λ x. is_site_among x (sites_judged before) ≡ false) (sym p.0) (not_before (sites_judged before) s (sites_of cs) apart) in
    let split : sites_judged before ++ s ∷ sites_of cs ≡ sites_judged (before ++ j ∷ []) ++ sites_of cs =
    ap (λ x. sites_judged before ++ x ∷ sites_of cs) (sym p.0) ∙ sym (ap (λ ss. ss ++ sites_of cs) (sites_all before (j ∷ [])) ∙ append_assoc (sites_judged before) (j.site ∷ []) (sites_of cs)) in
    let further = sites_follow all (before ++ j ∷ []) js cs (e ∙ sym (append_assoc before (j ∷ []) js)) (p.1 (ap (λ zs. kept_of zs j.site) e ∙ kept_first before j js none)) (subst Distinct split apart) in
    (λ i. p.0 i ∷ further i)

-- So each site was judged once.
pub judged_once : (js : List Judgement) (cs : List Condition) → Follows (kept_of js) cs js → AreApart (judgements (kept_of js) cs) → AreApart js
judged_once js cs follows once =
    let apart : Distinct (sites_of cs) = subst Distinct (sites_of_judged (kept_of js) cs) (distinct_here (judgements (kept_of js) cs) once) in
    apart_here js (subst Distinct (sym (sites_follow js [] js cs refl follows apart)) apart)

-- A text of `let`, exceptions and `;;` whose items aren't too large makes each demand once.
pub values_once : (env : Environment) (text : List Tree) → has_values_alone text ≡ true → AreSmall text → AsksOnce env text
values_once env text values small kept ch = apart_here (judgements kept (conditions_of env text kept ch)) (subst Distinct (sym (sites_of_judged kept (conditions_of env text kept ch))) (values_sites_apart env text values small kept ch))
