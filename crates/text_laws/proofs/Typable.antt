-- Where some types meet all that a text of `let` and `;;` asks, with every demand kept, each of its demands is kept: there is no fault.
use Rattle.std.proofs.Common.{◌≡◌, ◌∙◌, inl, inr, Bool, true, false, ◌||◌, ◌&&◌, List, [], ◌∷◌, map, refl, sym, ap, subst, if◌then◌else◌}
use Rattle.type_model.proofs.Applying.{or_cases, or_left, or_right}
use Rattle.tree_model.specs.Trees.{Tree}
use Rattle.signature_model.specs.Entries.{Environment}
use Rattle.typing_model.specs.Contexts.{Choice}
use Rattle.typing_model.specs.Demands.{Site, same_site, Condition, same, instance, made, known, demand, treated, AllHold, sites_of}
use Rattle.typing_model.specs.First.{every_site}
use Rattle.typing_model.specs.Plain.{has_lets_alone}
use Rattle.typing_model.specs.Typable.{AreTypable}
use Rattle.typing_model.specs.Typings.{conditions_of, conditions_up_to, no_choice, demands_of, is_site_among, sites_before, kept_with, HasTyping, IsKept, IsMetUpTo}
use Rattle.fault_model.specs.Refused.{refused_as, refused_of, reported_as, standing, AreOfValues, AreRefused}
use Rattle.query_model.specs.Faults.{TyperFault}
use Rattle.typing_laws.proofs.Bools.{no_yes, and_both}
use Rattle.typing_laws.proofs.Decided.{asked_alike, AskedAlike}
use Rattle.typing_laws.proofs.QuietTexts.{no_closings}
use Rattle.typing_laws.proofs.SteadyTexts.{text_together}
use Rattle.typing_laws.proofs.Together.{Kept}
use Rattle.typing_laws.proofs.Whole.{Whole, at_end, at_demand, at_same, at_instance, at_made, at_known, at_treated}
use Rattle.typing_laws.proofs.WholeTexts.{text_whole}
use Rattle.demand_laws.proofs.Bare.{lets_bare}
use Rattle.demand_laws.proofs.Texts.{asks_alike, refused_alike}
use Rattle.text_laws.specs.Texts.{sites_judged}
use Rattle.typing_laws.proofs.Settled.{lets_values, lets_plain, values_new}
use Rattle.text_laws.proofs.Sites.{one_site, same_as_itself, sites_of_judged}

-- what holds with every demand kept holds up to one before which all are kept
up_to : {k : Kept} (s : Site) {cs ds : List Condition} → Whole k every_site cs ds → ((x : Site) → is_site_among x (sites_before s (sites_of cs)) ≡ true → k x ≡ true) → AllHold every_site ds → AllHold k (conditions_up_to s cs)
up_to s at_end kept h = tt
up_to s (at_same w) kept h = (h.0, up_to s w kept h.1)
up_to s (at_instance w) kept h = (h.0, up_to s w kept h.1)
up_to s (at_made w) kept h = (h.0, up_to s w kept h.1)
up_to s (at_known w) kept h = (h.0, up_to s w kept h.1)
up_to s (at_treated w) kept h = (h.0, up_to s w kept h.1)
up_to {k} s (at_demand {s = t} {p = p} {d = d} {cs = cs} {ds = ds} g) kept h = (λ e. h.0 refl, by (same_site s t) kept (λ a j. up_to s (g a) j h.1))
  where
    by : (b : Bool) → ((x : Site) → is_site_among x (elim b [ true ↦ [] | false ↦ t ∷ sites_before s (sites_of cs) ]) ≡ true → k x ≡ true) →
        (k t ≡ true → ((x : Site) → is_site_among x (sites_before s (sites_of cs)) ≡ true → k x ≡ true) → AllHold k (conditions_up_to s cs)) → AllHold k (elim b [ true ↦ [] | false ↦ conditions_up_to s cs ])
    by true j further = tt
    by false j further =
        further (j t (or_left (same_site t t) (is_site_among t (sites_before s (sites_of cs))) (same_as_itself t))) (λ x i. j x (or_right (same_site x t) (is_site_among x (sites_before s (sites_of cs))) i))

-- a demand before which all are kept is
kept_behind : (env : Environment) (text : List Tree) (kept : Site → Bool) → has_lets_alone text ≡ true → HasTyping env text every_site → IsKept env text kept →
    (s : Site) → ((x : Site) → is_site_among x (sites_before s (demands_of env text kept)) ≡ true → kept x ≡ true) → is_site_among s (demands_of env text kept) ≡ true → kept s ≡ true
kept_behind env text kept lets (types, typing) k s earlier i = which (kept s) refl
  where
    with_s : Site → Bool
    with_s = kept_with env text kept s

    before : (x : Site) → is_site_among x (sites_before s (demands_of env text kept)) ≡ true → with_s x ≡ true
    before x j = or_right (same_site s x) (kept x && is_site_among x (sites_before s (demands_of env text kept))) (and_both (kept x) (is_site_among x (sites_before s (demands_of env text kept))) (earlier x j) j)

    both : AskedAlike s (conditions_of env text kept no_choice) (conditions_of env text with_s no_choice)
    both = asked_alike s (text_together {k = kept} {m = with_s} env text no_choice) i (λ x j. earlier x j ∙ sym (before x j))

    sites_here : sites_of (conditions_of env text with_s typing.choice) ≡ demands_of env text with_s
    sites_here =
        sym (sites_of_judged with_s (conditions_of env text with_s typing.choice)) ∙ ap sites_judged (asks_alike env text lets with_s typing.choice no_choice) ∙ sites_of_judged with_s (conditions_of env text with_s no_choice)

    same_before : sites_before s (sites_of (conditions_of env text with_s typing.choice)) ≡ sites_before s (demands_of env text kept)
    same_before = ap (sites_before s) sites_here ∙ sym both.before

    met : IsMetUpTo env text with_s s
    met = record {
      choice = typing.choice;
      holds = up_to s (text_whole {k = with_s} {m = every_site} env text typing.choice (values_new text (lets_values text lets))) (λ x j. before x (subst (λ ss. is_site_among x ss ≡ true) same_before j)) typing.holds;
    }

    which : (b : Bool) → kept s ≡ b → kept s ≡ true
    which true e = e
    which false e = absurd (k.fails s i (no_closings env text kept (lets_plain text lets) s) e met)

-- what holds of each of a list of sites of which it holds of those before, holds of all
in_order : (kept : Site → Bool) (sites : List Site) → ((s : Site) → ((x : Site) → is_site_among x (sites_before s sites) ≡ true → kept x ≡ true) → is_site_among s sites ≡ true → kept s ≡ true) → (s : Site) → is_site_among s sites ≡ true → kept s ≡ true
in_order kept [] next s i = absurd (no_yes i)
in_order kept (t ∷ ts) next s i = by (same_site s t) refl i (in_order kept ts later s)
  where
    none_first : (x : Site) (b : Bool) → b ≡ true → is_site_among x (elim b [ true ↦ [] | false ↦ t ∷ sites_before t ts ]) ≡ true → kept x ≡ true
    none_first x true e j = absurd (no_yes j)
    none_first x false e j = absurd (no_yes e)

    first : kept t ≡ true
    first = next t (λ x j. none_first x (same_site t t) (same_as_itself t) j) (or_left (same_site t t) (is_site_among t ts) (same_as_itself t))

    same_kept : (x : Site) → same_site x t ≡ true → kept x ≡ true
    same_kept x e = ap kept (one_site x t e) ∙ first

    later_before : (z : Site) → ((x : Site) → is_site_among x (sites_before z ts) ≡ true → kept x ≡ true) → (x : Site) (b : Bool) → is_site_among x (elim b [ true ↦ [] | false ↦ t ∷ sites_before z ts ]) ≡ true → kept x ≡ true
    later_before z earlier x true j = absurd (no_yes j)
    later_before z earlier x false j = elim (or_cases (same_site x t) (is_site_among x (sites_before z ts)) j) [ inl e ↦ same_kept x e | inr l ↦ earlier x l ]

    later : (z : Site) → ((x : Site) → is_site_among x (sites_before z ts) ≡ true → kept x ≡ true) → is_site_among z ts ≡ true → kept z ≡ true
    later z earlier j = next z (λ x l. later_before z earlier x (same_site z t) l) (or_right (same_site z t) (is_site_among z ts) j)

    by : (b : Bool) → same_site s t ≡ b → (b || is_site_among s ts) ≡ true → (is_site_among s ts ≡ true → kept s ≡ true) → kept s ≡ true
    by true e j others = same_kept s e
    by false e j others = others j

-- So each demand of a text that has a typing with every demand kept is kept.
pub all_kept : (env : Environment) (text : List Tree) (kept : Site → Bool) → has_lets_alone text ≡ true → HasTyping env text every_site → IsKept env text kept → (s : Site) → is_site_among s (demands_of env text kept) ≡ true → kept s ≡ true
all_kept env text kept lets typing k s i = in_order kept (demands_of env text kept) (kept_behind env text kept lets typing k) s i

-- where each demand among conditions is kept none is refused
none_left : (kept : Site → Bool) (cs : List Condition) → ((x : Site) → is_site_among x (sites_of cs) ≡ true → kept x ≡ true) → refused_of kept cs ≡ []
none_left kept [] h = refl
none_left kept (same t u ∷ cs) h = none_left kept cs h
none_left kept (instance s t ∷ cs) h = none_left kept cs h
none_left kept (made n t ∷ cs) h = none_left kept cs h
none_left kept (known t ∷ cs) h = none_left kept cs h
none_left kept (treated n env ∷ cs) h = none_left kept cs h
none_left kept (demand s at d ∷ cs) h =
    by (kept s) (h s (or_left (same_site s s) (is_site_among s (sites_of cs)) (same_as_itself s))) (none_left kept cs (λ x i. h x (or_right (same_site x s) (is_site_among x (sites_of cs)) i)))
  where
    by : (b : Bool) → b ≡ true → refused_of kept cs ≡ [] → (if b then refused_of kept cs else refused_as at d ∷ refused_of kept cs) ≡ []
    by true e none = none
    by false e none = absurd (no_yes e)

-- So none of its demands is refused.
pub typable_refuses_none : (env : Environment) (text : List Tree) (kept : Site → Bool) (choice : Choice) → has_lets_alone text ≡ true → HasTyping env text every_site → IsKept env text kept → refused_of kept (conditions_of env text kept choice) ≡ []
typable_refuses_none env text kept choice lets typing k =
    refused_alike env text lets kept choice no_choice ∙ none_left kept (conditions_of env text kept no_choice) (all_kept env text kept lets typing k)

-- such items are among those whose faults are fixed
pub typable_values : {items : List Tree} → AreTypable items → AreOfValues items
typable_values {items} t = record { tokens = t.tokens; parsed = t.parsed; few = t.few; values = lets_values items t.lets; bare = lets_bare items t.lets }

-- So there is no fault of it but warnings, as `AreRefused` has them, where the names in scope before it are one.
pub typable_has_no_faults : {items : List Tree} {faults : List TyperFault} (t : AreTypable items) (f : AreRefused items faults) → f.env ≡ t.env → standing faults ≡ []
typable_has_no_faults {items} {faults} t f e =
    no_image (standing faults) (f.are ∙ typable_refuses_none f.env items f.kept f.choice t.lets (subst (λ E. HasTyping E items every_site) (sym e) t.typing) f.keeps)
  where
    no_image : (fs : List TyperFault) → map reported_as fs ≡ [] → fs ≡ []
    no_image [] none = refl
    no_image (g ∷ gs) none = absurd (cc)
