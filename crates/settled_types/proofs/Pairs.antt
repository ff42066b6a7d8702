-- The two types of a demand of a text of `let`, `;;` and exceptions without an argument have no other constructors than the names in scope before it, and those of unknown types.
use Rattle.std.proofs.Common.{◌≡◌, ◌∙◌, Bool, true, false, Option, None, Some, if◌then◌else◌, List, [], ◌∷◌, refl, sym, ap, subst}
use Rattle.tree_model.specs.Trees.{Place, Tree}
use Rattle.type_model.specs.Types.{Typ}
use Rattle.signature_model.specs.Entries.{Environment}
use Rattle.signature_model.specs.Matching.{IsKnown}
use Rattle.typing_model.specs.Demands.{Site, same_site, Demand, equal, Condition, same, instance, made, known, demand, treated, sites_of, demand_of}
use Rattle.typing_model.specs.Typings.{conditions_before, kept_before}
use Rattle.typing_model.specs.Plain.{has_values_alone}
use Rattle.fault_model.specs.Values.{are_bare}
use Rattle.fault_model.specs.Messages.{IsPairAt}
use Rattle.settled_types.specs.Made.{Constructors, is_made_of, names_made_of}
use Rattle.settled_types.proofs.Erasing.{Stays, instance_stays, made_known}
use Rattle.settled_types.proofs.Goes.{DemandStays, ConditionStays, Goes, nothing_goes, goes_more, goes_each, chosen_rest}
use Rattle.settled_types.proofs.Texts.{text_goes}

-- whether a condition is the demand of a site, by the sites of its demands
is_of : Site → List Site → Bool
is_of s [] = false
is_of s (x ∷ xs) = same_site s x

-- what is asked before the demand of a site, by the first condition
before_by : (s : Site) (c : Condition) (cs : List Condition) → conditions_before s (c ∷ cs) ≡ elim (is_of s (sites_of (c ∷ []))) [ true ↦ [] | false ↦ c ∷ conditions_before s cs ]
unfolding is_of
before_by s (same t u) cs = refl
before_by s (instance z t) cs = refl
before_by s (made n t) cs = refl
before_by s (known t) cs = refl
before_by s (demand x at d) cs = refl
before_by s (treated n env) cs = refl

-- it goes as all conditions do
goes_before : {w : Constructors} {xs ys : List Condition} (s : Site) → Goes w xs ys → Goes w (conditions_before s xs) (conditions_before s ys)
goes_before s nothing_goes = nothing_goes
goes_before {w} s (goes_more {c} {d} {cs} {ds} o g) =
    subst (λ zs. Goes w zs (conditions_before s (d ∷ ds))) (sym (before_by s c cs))
    (subst (Goes w (elim (is_of s (sites_of (c ∷ []))) [ true ↦ [] | false ↦ c ∷ conditions_before s cs ])) (sym (before_by s d ds))
    (subst (λ b. Goes w (elim (is_of s (sites_of (c ∷ []))) [ true ↦ [] | false ↦ c ∷ conditions_before s cs ]) (elim b [ true ↦ [] | false ↦ d ∷ conditions_before s ds ])) (ap (is_of s) (sym o.sites)) (by (is_of s (sites_of (c ∷ []))) (goes_before s g))))
  where
    by : (b : Bool) → Goes w (conditions_before s cs) (conditions_before s ds) → Goes w (elim b [ true ↦ [] | false ↦ c ∷ conditions_before s cs ]) (elim b [ true ↦ [] | false ↦ d ∷ conditions_before s ds ])
    by true h = nothing_goes
    by false h = goes_more o h

-- the demand that a condition is
demand_in : Condition → Option (Place × Demand)
demand_in (same t u) = None
demand_in (instance z t) = None
demand_in (made n t) = None
demand_in (known t) = None
demand_in (demand x at d) = Some (at, d)
demand_in (treated n env) = None

demand_by : (s : Site) (c : Condition) (cs : List Condition) → demand_of s (c ∷ cs) ≡ (if is_of s (sites_of (c ∷ [])) then demand_in c else demand_of s cs)
unfolding is_of demand_in
demand_by s (same t u) cs = refl
demand_by s (instance z t) cs = refl
demand_by s (made n t) cs = refl
demand_by s (known t) cs = refl
demand_by s (demand x at d) cs = refl
demand_by s (treated n env) cs = refl

one_demand : {x y : Place × Demand} → Some x ≡ Some y → x.1 ≡ y.1
one_demand {x} {y} e = let f : x ≡ y = cc in ap (λ (z : Place × Demand). z.1) f

stays_in : (w : Constructors) (c : Condition) (at : Place) (t u : Typ) → ConditionStays w c → demand_in c ≡ Some (at, equal t u) → Stays w.all t × Stays w.all u
unfolding demand_in
stays_in w (same x y) at t u h e = absurd (cc)
stays_in w (instance z x) at t u h e = absurd (cc)
stays_in w (made n x) at t u h e = absurd (cc)
stays_in w (known x) at t u h e = absurd (cc)
stays_in w (demand x p d) at t u h e = subst (DemandStays w) (one_demand e) h
stays_in w (treated n env) at t u h e = absurd (cc)

-- in a demand that two types are one no other constructor stands
goes_demand : {w : Constructors} {xs ys : List Condition} (s : Site) (at : Place) (t u : Typ) → Goes w xs ys → demand_of s ys ≡ Some (at, equal t u) → Stays w.all t × Stays w.all u
goes_demand s at t u nothing_goes e = absurd (cc)
goes_demand {w} s at t u (goes_more {c} {d} {cs} {ds} o g) e = by (is_of s (sites_of (d ∷ []))) (sym (demand_by s d ds) ∙ e) (goes_demand s at t u g)
  where
    by : (b : Bool) → (if b then demand_in d else demand_of s ds) ≡ Some (at, equal t u) → (demand_of s ds ≡ Some (at, equal t u) → Stays w.all t × Stays w.all u) → Stays w.all t × Stays w.all u
    by true f further = stays_in w d at t u o.stays f
    by false f further = further f

-- What is left of the types of a choice meets what is asked before a demand as they do, so the two types of the demand have no other constructors either.
pair_stays : (w : Constructors) (env : Environment) (items : List Tree) (kept : Site → Bool) (s : Site) (at : Place) (t u : Typ) → has_values_alone items ≡ true → are_bare items ≡ true → names_made_of w.all env ≡ true → IsPairAt env items kept s at t u → Stays w.all t × Stays w.all u
pair_stays w env items kept s at t u values bare names p =
    let goes = text_goes w env items values bare names (kept_before env items kept s) p.choice in
    let (place, x, y, asks, instances) = p.general (chosen_rest w p.choice) (goes_each (goes_before s goes) (kept_before env items kept s) p.holds) in
    let stay = goes_demand s place x y goes asks in
    (instance_stays w.all instances.types t (subst (Stays w.all) instances.first stay.0), instance_stays w.all instances.types u (subst (Stays w.all) instances.second stay.1))

-- The two types of a demand, as its message shows them, are made of these constructors alone, where no unknown type stands in them.
pub pair_types_are_made : (w : Constructors) (env : Environment) (items : List Tree) (kept : Site → Bool) (s : Site) (at : Place) (t u : Typ) → has_values_alone items ≡ true → are_bare items ≡ true → names_made_of w.all env ≡ true → IsPairAt env items kept s at t u → IsKnown t → IsKnown u →
    (is_made_of w.all t ≡ true) × (is_made_of w.all u ≡ true)
pair_types_are_made w env items kept s at t u values bare names p known_t known_u =
    let stay = pair_stays w env items kept s at t u values bare names p in
    (made_known w.all t stay.0 known_t, made_known w.all u stay.1 known_u)
