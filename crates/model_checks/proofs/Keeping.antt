-- The kept demands of a text, from a typing for each kept one, and none for each other.
use Rattle.std.proofs.Common.{◌≡◌, ℕ, ◌==◌, Bool, true, false, ◌&&◌, ◌||◌, List, [], ◌∷◌, Some, None, refl, sym, ◌∙◌, ap, subst, inl, inr, Option, if◌then◌else◌}
use Rattle.std.proofs.lemmas.Bool.{eqb-true}
use Rattle.type_model.proofs.Applying.{or_cases}
use Rattle.tree_model.specs.Trees.{Tree}
use Rattle.signature_model.specs.Signatures.{Signature}
use Rattle.signature_model.specs.Entries.{Environment, free_in, free_in_signature}
use Rattle.typing_model.specs.Demands.{Site, site, same_site, Demand, equal, test, agrees, matches, closes, Condition, same, instance, made, known, demand, treated, demand_of, environment_of, AllHold}
use Rattle.typing_model.specs.Typings.{conditions_of, no_choice, is_site_among, sites_before, demands_of, body_in, body_asked, body_at, is_closing, conditions_before, conditions_up_to, IsBody, HasTyping, IsMetUpTo, IsKept, IsMostGeneral, IsMostGeneralChoice}
use Rattle.typing_model.specs.Contexts.{Choice}
use Rattle.signature_model.specs.Functors.{IsClosed}
use Rattle.typing_model.specs.Faults.{Fault, Tells, IsFaultAt}
use Rattle.model_checks.specs.Kept.{kept_at}
use Rattle.model_checks.proofs.Apart.{no_yes}

and_cases : (a b : Bool) → (a && b) ≡ true → (a ≡ true) × (b ≡ true)
and_cases true b h = (refl, h)
and_cases false b h = absurd (no_yes h)

one_site : (s t : Site) → same_site s t ≡ true → s ≡ t
one_site s t h =
    let p = and_cases (s.node == t.node) (s.number == t.number) h in
    ap (λ n. site n s.number) (eqb-true s.node t.node p.0) ∙ ap (site t.node) (eqb-true s.number t.number p.1)

or_right : (a b : Bool) → b ≡ true → (a || b) ≡ true
or_right true b h = refl
or_right false b h = h

-- something holds of each of a list of sites
abbrev pub Each : (Site → Type 0) → List Site → Type 0
Each P [] = Unit {0}
Each P (s ∷ ss) = P s × Each P ss

pub each_of : (P : Site → Type 0) (sites : List Site) → Each P sites → (s : Site) → is_site_among s sites ≡ true → P s
each_of P [] h s i = absurd (no_yes i)
each_of P (t ∷ ts) h s i =
    elim (or_cases (same_site s t) (is_site_among s ts) i) [ inl e ↦ subst P (sym (one_site s t e)) h.0 | inr j ↦ each_of P ts h.1 s j ]

-- the kept demands before a site among those that are asked, and the site itself
abbrev pub up_to : List Site → List Site → Site → Site → Bool
up_to asked kept s x = same_site s x || (is_site_among x kept && is_site_among x (sites_before s asked))

-- the first of conditions that hold hold, up to a demand
first_hold : (kept : Site → Bool) (x : Site) (cs : List Condition) → AllHold kept cs → AllHold kept (conditions_up_to x cs)
first_hold kept x [] h = tt
first_hold kept x (same t u ∷ cs) h = (h.0, first_hold kept x cs h.1)
first_hold kept x (instance s t ∷ cs) h = (h.0, first_hold kept x cs h.1)
first_hold kept x (made n t ∷ cs) h = (h.0, first_hold kept x cs h.1)
first_hold kept x (known t ∷ cs) h = (h.0, first_hold kept x cs h.1)
first_hold kept x (treated n env ∷ cs) h = (h.0, first_hold kept x cs h.1)
first_hold kept x (demand s at d ∷ cs) h = (h.0, by (same_site x s) (first_hold kept x cs h.1))
  where
    by : (b : Bool) → AllHold kept (conditions_up_to x cs) → AllHold kept (elim b [ true ↦ [] | false ↦ conditions_up_to x cs ])
    by true held = tt
    by false held = held

-- where a typing exists its types meet the conditions up to each demand
pub met_up_to : (env : Environment) (text : List Tree) (kept : Site → Bool) (s : Site) → HasTyping env text kept → IsMetUpTo env text kept s
met_up_to env text kept s t = record { choice = t.1.choice; holds = first_hold kept s (conditions_of env text kept t.1.choice) t.1.holds }

-- whether no condition is a `closing`
abbrev closes_not : Demand → Bool
closes_not (equal t u) = true
closes_not (test c b) = true
closes_not (agrees c n s t) = true
closes_not (matches A t) = true
closes_not (closes env s) = false

abbrev pub no_closing : List Condition → Bool
no_closing [] = true
no_closing (same t u ∷ cs) = no_closing cs
no_closing (instance s t ∷ cs) = no_closing cs
no_closing (made n t ∷ cs) = no_closing cs
no_closing (known t ∷ cs) = no_closing cs
no_closing (demand s at d ∷ cs) = closes_not d && no_closing cs
no_closing (treated n env ∷ cs) = no_closing cs

no_body_in : (d : Demand) → closes_not d ≡ true → body_in d ≡ None
no_body_in (equal t u) h = refl
no_body_in (test c b) h = refl
no_body_in (agrees c n s t) h = refl
no_body_in (matches A t) h = refl
no_body_in (closes env s) h = absurd (no_yes h)

no_body_at : (x : Site) (cs : List Condition) → no_closing cs ≡ true → body_at x cs ≡ None
no_body_at x [] h = refl
no_body_at x (same t u ∷ cs) h = no_body_at x cs h
no_body_at x (instance s t ∷ cs) h = no_body_at x cs h
no_body_at x (made n t ∷ cs) h = no_body_at x cs h
no_body_at x (known t ∷ cs) h = no_body_at x cs h
no_body_at x (treated n env ∷ cs) h = no_body_at x cs h
no_body_at x (demand s at d ∷ cs) h = by (same_site x s) (no_body_at x cs (and_cases (closes_not d) (no_closing cs) h).1)
  where
    by : (b : Bool) → body_at x cs ≡ None → body_asked (if b then Some (at, d) else demand_of x cs) ≡ None
    by true later = no_body_in d (and_cases (closes_not d) (no_closing cs) h).0
    by false later = later

is_no_closing : (env : Environment) (text : List Tree) (kept : Site → Bool) (s : Site) → no_closing (conditions_of env text kept no_choice) ≡ true → is_closing env text kept s ≡ false
is_no_closing env text kept s h = ap (λ b. elim b [ None ↦ false | Some c ↦ true ]) (no_body_at s (conditions_of env text kept no_choice) h)

-- the kept demands of a text without a `closing`
pub keeps : (env : Environment) (text : List Tree) (asked kept : List Site) → demands_of env text (kept_at kept) ≡ asked → no_closing (conditions_of env text (kept_at kept) no_choice) ≡ true →
    Each (λ s. is_site_among s asked ≡ true) kept →
    Each (λ s. HasTyping env text (up_to asked kept s)) kept →
    Each (λ s. is_site_among s kept ≡ false → IsMetUpTo env text (up_to asked kept s) s → ⊥) asked → IsKept env text (kept_at kept)
keeps env text asked kept all open_ among typed refused = record {
  only = λ s k. is_asked s (each_of (λ s. is_site_among s asked ≡ true) kept among s k);
  exists = λ s k. subst (λ sites. IsMetUpTo env text (up_to sites kept s) s) (sym all) (met_up_to env text (up_to asked kept s) s (each_of (λ s. HasTyping env text (up_to asked kept s)) kept typed s k));
  fails = λ s i c k t. each_of (λ s. is_site_among s kept ≡ false → IsMetUpTo env text (up_to asked kept s) s → ⊥) asked refused s (was_asked s i) k (subst (λ sites. IsMetUpTo env text (up_to sites kept s) s) all t);
  closed = λ s c k. absurd (no_yes (sym (is_no_closing env text (kept_at kept) s open_) ∙ c));
  left_open = λ s i c k. absurd (no_yes (sym (is_no_closing env text (kept_at kept) s open_) ∙ c));
}
  where
    is_asked : (s : Site) → is_site_among s asked ≡ true → is_site_among s (demands_of env text (kept_at kept)) ≡ true
    is_asked s h = ap (is_site_among s) all ∙ h

    was_asked : (s : Site) → is_site_among s (demands_of env text (kept_at kept)) ≡ true → is_site_among s asked ≡ true
    was_asked s h = ap (is_site_among s) (sym all) ∙ h

-- the kept demands before a site among those that are asked
abbrev pub before : List Site → List Site → Site → Site → Bool
before asked kept s x = is_site_among x kept && is_site_among x (sites_before s asked)

-- a fault, by the most general types for the demands before it
pub is_fault : (env : Environment) (text : List Tree) (asked kept : List Site) (s : Site) (f : Fault) (choice : Choice) (d : Demand) → demands_of env text (kept_at kept) ≡ asked →
    is_site_among s asked ≡ true → is_site_among s kept ≡ false →
    IsMostGeneralChoice (before asked kept s) (conditions_of env text (before asked kept s)) choice →
    demand_of s (conditions_of env text (before asked kept s) choice) ≡ Some (f.at, d) → Tells env text (kept_at kept) s d f.told →
    environment_of s.node (conditions_of env text (before asked kept s) choice) ≡ Some f.env → IsFaultAt env text (kept_at kept) s f
is_fault env text asked kept s f choice d all i k general stands tells inside = record {
  asked = ap (is_site_among s) all ∙ i;
  refused = k;
  choice = choice;
  general = subst (λ sites. IsMostGeneralChoice (before sites kept s) (conditions_of env text (before sites kept s)) choice) (sym all) general;
  demand = d;
  stands = subst (λ sites. demand_of s (conditions_of env text (before sites kept s) choice) ≡ Some (f.at, d)) (sym all) stands;
  tells = tells;
  treated = subst (λ sites. environment_of s.node (conditions_of env text (before sites kept s) choice) ≡ Some f.env) (sym all) inside;
}

-- the types of a most general choice are most general
pub is_principal : (kept : Site → Bool) (asked : Choice → List Condition) (choice : Choice) → IsMostGeneralChoice kept asked choice → IsMostGeneral kept asked choice.type_at
is_principal kept asked choice g = record {
  fits = record { choice = choice; chosen = λ n. refl; holds = g.holds };
  general = λ others f. let i = g.general f.choice f.holds in (i.0, λ n. sym (f.chosen n) ∙ i.1 n);
}

-- a body that leaves a variable open, by the demands kept before its `closing` among those that are asked
pub record LeavesOpen (env : Environment) (text : List Tree) (asked kept : List Site) (s : Site) : Type 0 where
  pub choice : Choice
  pub outer : Environment
  pub body : Signature
  pub general : IsMostGeneralChoice (before asked kept s) (λ choice. conditions_before s (conditions_of env text (before asked kept s) choice)) choice
  pub stands : body_at s (conditions_of env text (before asked kept s) choice) ≡ Some (outer, body)
  pub variable : ℕ
  pub inside : free_in_signature variable body ≡ true
  pub outside : free_in variable outer ≡ false

-- the kept demands of a text of which a `closing` is left open
pub keeps_open : (env : Environment) (text : List Tree) (asked kept : List Site) → demands_of env text (kept_at kept) ≡ asked →
    Each (λ s. is_site_among s asked ≡ true) kept →
    Each (λ s. is_closing env text (kept_at kept) s ≡ false) kept →
    Each (λ s. HasTyping env text (up_to asked kept s)) kept →
    Each (λ s. is_site_among s kept ≡ false → is_closing env text (kept_at kept) s ≡ false → IsMetUpTo env text (up_to asked kept s) s → ⊥) asked →
    Each (λ s. is_site_among s kept ≡ false → is_closing env text (kept_at kept) s ≡ true → LeavesOpen env text asked kept s) asked → IsKept env text (kept_at kept)
keeps_open env text asked kept all among closed typed refused left = record {
  only = λ s k. is_asked s (each_of (λ s. is_site_among s asked ≡ true) kept among s k);
  exists = λ s k. subst (λ sites. IsMetUpTo env text (up_to sites kept s) s) (sym all) (met_up_to env text (up_to asked kept s) s (each_of (λ s. HasTyping env text (up_to asked kept s)) kept typed s k));
  fails = λ s i c k t. each_of (λ s. is_site_among s kept ≡ false → is_closing env text (kept_at kept) s ≡ false → IsMetUpTo env text (up_to asked kept s) s → ⊥) asked refused s (was_asked s i) k c (subst (λ sites. IsMetUpTo env text (up_to sites kept s) s) all t);
  closed = λ s c k. absurd (no_yes (sym (each_of (λ s. is_closing env text (kept_at kept) s ≡ false) kept closed s k) ∙ c));
  left_open = λ s i c k. opened s (each_of (λ s. is_site_among s kept ≡ false → is_closing env text (kept_at kept) s ≡ true → LeavesOpen env text asked kept s) asked left s (was_asked s i) k c);
}
  where
    is_asked : (s : Site) → is_site_among s asked ≡ true → is_site_among s (demands_of env text (kept_at kept)) ≡ true
    is_asked s h = ap (is_site_among s) all ∙ h

    was_asked : (s : Site) → is_site_among s (demands_of env text (kept_at kept)) ≡ true → is_site_among s asked ≡ true
    was_asked s h = ap (is_site_among s) (sym all) ∙ h

    opened : (s : Site) → LeavesOpen env text asked kept s → (outer : Environment) × (body : Signature) × IsBody env text (kept_at kept) s outer body × (v : ℕ) × (free_in_signature v body ≡ true) × (free_in v outer ≡ false)
    opened s o = (
      o.outer,
      o.body,
      record {
        choice = o.choice;
        general = subst (λ sites. IsMostGeneralChoice (before sites kept s) (λ choice. conditions_before s (conditions_of env text (before sites kept s) choice)) o.choice) (sym all) o.general;
        stands = subst (λ sites. body_at s (conditions_of env text (before sites kept s) o.choice) ≡ Some (o.outer, o.body)) (sym all) o.stands;
      },
      o.variable,
      o.inside,
      o.outside,
    )

-- the sites of the demands that are a `closing`
abbrev pub closings_of : List Condition → List Site
closings_of [] = []
closings_of (same t u ∷ cs) = closings_of cs
closings_of (instance s t ∷ cs) = closings_of cs
closings_of (made n t ∷ cs) = closings_of cs
closings_of (known t ∷ cs) = closings_of cs
closings_of (demand s at d ∷ cs) = if closes_not d then closings_of cs else s ∷ closings_of cs
closings_of (treated n env ∷ cs) = closings_of cs

abbrev has_body : Option (Environment × Signature) → Bool
has_body b = elim b [ None ↦ false | Some c ↦ true ]

among_more : (x s : Site) (d : Demand) (sites : List Site) → is_site_among x sites ≡ true → is_site_among x (if closes_not d then sites else s ∷ sites) ≡ true
among_more x s d sites h = by (closes_not d)
  where
    by : (b : Bool) → is_site_among x (if b then sites else s ∷ sites) ≡ true
    by true = h
    by false = or_right (same_site x s) (is_site_among x sites) h

among_here : (x s : Site) (d : Demand) (sites : List Site) → same_site x s ≡ true → has_body (body_in d) ≡ true → is_site_among x (if closes_not d then sites else s ∷ sites) ≡ true
among_here x s (equal t u) sites e h = absurd (no_yes h)
among_here x s (test c b) sites e h = absurd (no_yes h)
among_here x s (agrees c n t u) sites e h = absurd (no_yes h)
among_here x s (matches A t) sites e h = absurd (no_yes h)
among_here x s (closes env t) sites e h = ap (λ b. b || is_site_among x sites) e

-- a demand that is a `closing` has its site among them
closing_among : (x : Site) (cs : List Condition) → has_body (body_at x cs) ≡ true → is_site_among x (closings_of cs) ≡ true
closing_among x [] h = h
closing_among x (same t u ∷ cs) h = closing_among x cs h
closing_among x (instance s t ∷ cs) h = closing_among x cs h
closing_among x (made n t ∷ cs) h = closing_among x cs h
closing_among x (known t ∷ cs) h = closing_among x cs h
closing_among x (treated n env ∷ cs) h = closing_among x cs h
closing_among x (demand s at d ∷ cs) h = by (same_site x s) refl h (closing_among x cs)
  where
    by : (b : Bool) → same_site x s ≡ b → has_body (body_asked (if b then Some (at, d) else demand_of x cs)) ≡ true → (has_body (body_at x cs) ≡ true → is_site_among x (closings_of cs) ≡ true) →
        is_site_among x (if closes_not d then closings_of cs else s ∷ closings_of cs) ≡ true
    by true e g later = among_here x s d (closings_of cs) e g
    by false e g later = among_more x s d (closings_of cs) (later g)

-- a body that leaves nothing open, by the demands kept before its `closing` among those that are asked
pub record Closes (env : Environment) (text : List Tree) (asked kept : List Site) (s : Site) : Type 0 where
  pub choice : Choice
  pub outer : Environment
  pub body : Signature
  pub general : IsMostGeneralChoice (before asked kept s) (λ choice. conditions_before s (conditions_of env text (before asked kept s) choice)) choice
  pub stands : body_at s (conditions_of env text (before asked kept s) choice) ≡ Some (outer, body)
  pub closed : IsClosed outer body

-- the kept demands of a text with one `closing`, whose body leaves nothing open
pub keeps_one_closing : (env : Environment) (text : List Tree) (asked kept : List Site) (c : Site) → demands_of env text (kept_at kept) ≡ asked →
    closings_of (conditions_of env text (kept_at kept) no_choice) ≡ c ∷ [] → is_site_among c kept ≡ true →
    Each (λ s. is_site_among s asked ≡ true) kept →
    Each (λ s. HasTyping env text (up_to asked kept s)) kept →
    Each (λ s. is_site_among s kept ≡ false → IsMetUpTo env text (up_to asked kept s) s → ⊥) asked → Closes env text asked kept c → IsKept env text (kept_at kept)
keeps_one_closing env text asked kept c all one k among typed refused closed = record {
  only = λ s k. ap (is_site_among s) all ∙ each_of (λ s. is_site_among s asked ≡ true) kept among s k;
  exists = λ s k. subst (λ sites. IsMetUpTo env text (up_to sites kept s) s) (sym all) (met_up_to env text (up_to asked kept s) s (each_of (λ s. HasTyping env text (up_to asked kept s)) kept typed s k));
  fails = λ s i n k t. each_of (λ s. is_site_among s kept ≡ false → IsMetUpTo env text (up_to asked kept s) s → ⊥) asked refused s (ap (is_site_among s) (sym all) ∙ i) k (subst (λ sites. IsMetUpTo env text (up_to sites kept s) s) all t);
  closed = λ s h k. shut s (subst (Closes env text asked kept) (sym (is_one s h)) closed);
  left_open = λ s i h n. absurd (no_yes (sym n ∙ ap (λ x. is_site_among x kept) (is_one s h) ∙ k));
}
  where
    is_one : (s : Site) → is_closing env text (kept_at kept) s ≡ true → s ≡ c
    is_one s h = elim (or_cases (same_site s c) false (ap (is_site_among s) (sym one) ∙ closing_among s (conditions_of env text (kept_at kept) no_choice) h)) [ inl e ↦ one_site s c e | inr e ↦ absurd (no_yes e) ]

    shut : (s : Site) → Closes env text asked kept s → (outer : Environment) × (body : Signature) × IsBody env text (kept_at kept) s outer body × IsClosed outer body
    shut s o = (
      o.outer,
      o.body,
      record {
        choice = o.choice;
        general = subst (λ sites. IsMostGeneralChoice (before sites kept s) (λ choice. conditions_before s (conditions_of env text (before sites kept s) choice)) o.choice) (sym all) o.general;
        stands = subst (λ sites. body_at s (conditions_of env text (before sites kept s) o.choice) ≡ Some (o.outer, o.body)) (sym all) o.stands;
      },
      o.closed,
    )
