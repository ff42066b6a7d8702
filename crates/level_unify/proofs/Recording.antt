-- What is recorded of the variables that become links.
use Rattle.std.proofs.Common.{◌≡◌, ◌≢◌, ℕ, zero, suc, Bool, true, false, eqb, ◌&&◌, ◌||◌, List, [], ◌∷◌, ◌++◌, length, set, Some, refl, sym, ◌∙◌, ap, subst, ◌⊎◌, inl, inr}
use Rattle.std.specs.Prelude.{slice_get, Result, Ok, Err, OnOk}
use Rattle.std.proofs.lemmas.Option.{slice_get_within}
use Rattle.type_nodes.specs.Nodes.{Node, Var, Rigid, Link, Arrow, Tuple, Con, bound_level}
use Rattle.type_nodes.specs.Links.{root}
use Rattle.type_nodes.proofs.Lists.{same_or_other, one_element, get-set_other, get-append_left, get-append_last, get-append_cases}
use Rattle.level_unify.specs.declared.plan.Plan.TheVariants.{BindLeft, BindRight}
use Rattle.level_unify.specs.declared.solve.Stop.{Stop}
use Rattle.level_unify.specs.Plans.{IsFreeVar, SameHead}
use Rattle.level_unify.specs.Solutions.{Cap, IsListed, cap_of, caps_of, Equation, Recorded, Tracked}
use Rattle.std.specs.List.{list_any}
use Rattle.std.specs.List.Sorted.{IsPermutation}
use Rattle.std.proofs.lemmas.List.Sorted.{list_any-IsPermutation}
use Rattle.std.proofs.lemmas.Bool.{eqb-true, eq-eqb, or_cases}
use Rattle.type_model.proofs.Applying.{or_right}
use Rattle.level_unify.specs.declared.solve.Limit.{Limit}
use Rattle.level_unify.proofs.Steps.{Planned}
use Rattle.level_unify.proofs.Solving.{Solving, taken_within}

listed_more : (caps : List Cap) (x y : Cap) → IsListed caps x → IsListed (caps ++ y ∷ []) x
listed_more caps x y (k, e) = (k, get-append_left caps (y ∷ []) k (slice_get_within caps k x e) ∙ e)

listed_last : (caps : List Cap) (y : Cap) → IsListed (caps ++ y ∷ []) y
listed_last caps y = (length caps, get-append_last caps y)

-- a variable that was linked, and listed
var_recorded : (nodes new : List Node) (r s level scope : ℕ) (caps caps' : List Cap) → slice_get nodes r ≡ Some (Var level scope) → level ≢ bound_level → new ≡ set nodes r (Link s) →
    caps' ≡ caps ++ (r, level, scope) ∷ [] → Recorded nodes new r s caps caps'
var_recorded nodes new r s level scope caps caps' at unbound e more = subst (Recorded nodes new r s caps) (sym more) (subst (λ n. Recorded nodes n r s caps (caps ++ (r, level, scope) ∷ [])) (sym e) (record {
  kept = λ x h. listed_more caps x (r, level, scope) h;
  gone = λ n l o f. elim (same_or_other n r) [
    | inl same ↦ inr (
        let g : Var level scope ≡ Var l o = one_element (Var level scope) (Var l o) (slice_get nodes r) at (subst (λ k. slice_get nodes k ≡ Some (Var l o)) same f) in
        let p : level ≡ l = cc in let q : scope ≡ o = cc in
        subst (IsListed (caps ++ (r, level, scope) ∷ [])) (λ i. (sym same i, p i, q i)) (listed_last caps (r, level, scope)))
    | inr other ↦ inl (get-set_other nodes r n (Link s) other ∙ f)
  ];
  was = λ x (k, h). elim (get-append_cases caps (r, level, scope) k x h) [
    | inl f ↦ inl (k, f)
    | inr (p, q) ↦ inr (subst (λ (y : Cap). (slice_get nodes y.0 ≡ Some (Var y.1 y.2)) × (y.1 ≢ bound_level) × ((y.0 ≡ r) ⊎ (y.0 ≡ s))) (sym q) (at, unbound, inl refl))
  ];
}))

turned : (nodes new : List Node) (r s : ℕ) (caps caps' : List Cap) → Recorded nodes new s r caps caps' → Recorded nodes new r s caps caps'
turned nodes new r s caps caps' h = record {
  kept = h.kept;
  gone = h.gone;
  was = λ x l. elim (h.was x l) [ inl i ↦ inl i | inr (p, q, w) ↦ inr (p, q, elim w [ inl e ↦ inr e | inr e ↦ inl e ]) ];
}

of_free : (nodes new : List Node) (r s : ℕ) (c : Node) (caps caps' : List Cap) → slice_get nodes r ≡ Some c → IsFreeVar c → new ≡ set nodes r (Link s) →
    ((level scope : ℕ) → slice_get nodes r ≡ Some (Var level scope) → caps' ≡ caps ++ (r, level, scope) ∷ []) → Recorded nodes new r s caps caps'
of_free nodes new r s (Var level scope) caps caps' at free e more = var_recorded nodes new r s level scope caps caps' at free e (more level scope at)
of_free nodes new r s Rigid caps caps' at free e more = absurd free
of_free nodes new r s (Link m) caps caps' at free e more = absurd free
of_free nodes new r s (Arrow a b) caps caps' at free e more = absurd free
of_free nodes new r s (Tuple ms) caps caps' at free e more = absurd free
of_free nodes new r s (Con p name ms) caps caps' at free e more = absurd free

pub left_recorded : (nodes new : List Node) (r s : ℕ) (caps caps' : List Cap) (res : Result (Unit {0}) Stop) → Planned nodes r s BindLeft → OnOk res (new ≡ set nodes r (Link s)) →
    OnOk res ((level scope : ℕ) → slice_get nodes r ≡ Some (Var level scope) → caps' ≡ caps ++ (r, level, scope) ∷ []) → OnOk res (Recorded nodes new r s caps caps')
left_recorded nodes new r s caps caps' (Ok u) p e more = of_free nodes new r s p.left caps caps' p.left_at p.plans e more
left_recorded nodes new r s caps caps' (Err f) p e more = tt

pub right_recorded : (nodes new : List Node) (r s : ℕ) (caps caps' : List Cap) (res : Result (Unit {0}) Stop) → Planned nodes r s BindRight → OnOk res (new ≡ set nodes s (Link r)) →
    OnOk res ((level scope : ℕ) → slice_get nodes s ≡ Some (Var level scope) → caps' ≡ caps ++ (s, level, scope) ∷ []) → OnOk res (Recorded nodes new r s caps caps')
right_recorded nodes new r s caps caps' (Ok u) p e more = turned nodes new r s caps caps' (of_free nodes new s r p.right caps caps' p.right_at p.plans e more)
right_recorded nodes new r s caps caps' (Err f) p e more = tt

head_no_var : (c d : Node) (level scope : ℕ) → SameHead c d → c ≡ Var level scope → ⊥
head_no_var c d level scope h e = subst (λ x. SameHead x d) e h

-- a composite that was linked is no variable
pub tie_recorded : (nodes new : List Node) (r s : ℕ) (c d : Node) → slice_get nodes r ≡ Some c → SameHead c d → new ≡ set nodes r (Link s) → (caps : List Cap) → Recorded nodes new r s caps caps
tie_recorded nodes new r s c d at head e caps = subst (λ n. Recorded nodes n r s caps caps) (sym e) (record {
  kept = λ x h. h;
  gone = λ n l o f. elim (same_or_other n r) [
    | inl same ↦ absurd (head_no_var c d l o head (one_element c (Var l o) (slice_get nodes r) at (subst (λ k. slice_get nodes k ≡ Some (Var l o)) same f)))
    | inr other ↦ inl (get-set_other nodes r n (Link s) other ∙ f)
  ];
  was = λ x h. inl h;
})

pub none_recorded : (nodes : List Node) (r s : ℕ) (caps : List Cap) → Recorded nodes nodes r s caps caps
none_recorded nodes r s caps = record { kept = λ x h. h; gone = λ n l o f. inl f; was = λ x h. inl h }

pub tracked_start : (old : List Node) (a b : ℕ) (caps : List Cap) → caps ≡ [] → Tracked old old a b caps
tracked_start old a b caps e = subst (Tracked old old a b) (sym e) (record {
  gone = λ n level scope at. inl at;
  was = λ x (k, h). absurd (cc);
  within = λ F closed has has' x (k, h). absurd (cc);
})

pub tracked_on : (old now new : List Node) (a b r s : ℕ) (caps caps' : List Cap) (todo rest : List Equation) (e : Equation) → Solving old now a b todo → todo ≡ rest ++ e ∷ [] →
    r ≡ root now e.0 → s ≡ root now e.1 → Recorded now new r s caps caps' → Tracked old now a b caps → Tracked old new a b caps'
tracked_on old now new a b r s caps caps' todo rest e sol same is is' rec h = record {
  gone = λ n level scope at. elim (h.gone n level scope at) [
    | inl there ↦ rec.gone n level scope there
    | inr listed ↦ inr (rec.kept (n, level, scope) listed)
  ];
  was = λ x l. elim (rec.was x l) [
    | inl before ↦ h.was x before
    | inr (at, free, w) ↦ (sol.stays.links x.0 (Var x.1 x.2) at tt, free)
  ];
  within = λ F closed has has' x l. elim (rec.was x l) [
    | inl before ↦ h.within F closed has has' x before
    | inr (at, free, w) ↦
        let t = taken_within old now a b rest e (subst (Solving old now a b) same sol) F closed has has' in
        elim w [ inl p ↦ ap F (p ∙ is) ∙ t.0 | inr p ↦ ap F (p ∙ is') ∙ t.1 ]
  ];
}

-- what is listed is listed in each order
abbrev same_cap : Cap → Limit → Bool
same_cap x l = eqb x.0 l.var.0 && (eqb x.1 l.level && eqb x.2 l.scope)

both_true : (a b : Bool) → (a && b) ≡ true → (a ≡ true) × (b ≡ true)
both_true true b h = (refl, h)
both_true false b h = absurd (cc)

listed_passes : (x : Cap) (ls : List Limit) → IsListed (caps_of ls) x → list_any (same_cap x) ls ≡ true
listed_passes x [] (k, e) = absurd (cc)
listed_passes x (l ∷ ls) (zero, e) =
    let f : cap_of l ≡ x = cc in
    let p = eq-eqb x.0 l.var.0 (sym (ap (λ (y : Cap). y.0) f)) in
    let q = eq-eqb x.1 l.level (sym (ap (λ (y : Cap). y.1) f)) in
    let r = eq-eqb x.2 l.scope (sym (ap (λ (y : Cap). y.2) f)) in
    (λ i. (p i && (q i && r i)) || list_any (same_cap x) ls)
listed_passes x (l ∷ ls) (suc k, e) = or_right (same_cap x l) (list_any (same_cap x) ls) (listed_passes x ls (k, e))

passes_listed : (x : Cap) (ls : List Limit) → list_any (same_cap x) ls ≡ true → IsListed (caps_of ls) x
passes_listed x [] h = absurd (cc)
passes_listed x (l ∷ ls) h = elim (or_cases (same_cap x l) (list_any (same_cap x) ls) h) [
  | inl e ↦
      let (p, qr) = both_true (eqb x.0 l.var.0) (eqb x.1 l.level && eqb x.2 l.scope) e in
      let (q, r) = both_true (eqb x.1 l.level) (eqb x.2 l.scope) qr in
      let p' = eqb-true x.0 l.var.0 p in
      let q' = eqb-true x.1 l.level q in
      let r' = eqb-true x.2 l.scope r in
      (0, (λ i. Some (sym p' i, sym q' i, sym r' i)))
  | inr e ↦ let (k, f) = passes_listed x ls e in (suc k, f)
]

pub permuted_listed : (xs ys : List Limit) → IsPermutation xs ys → (x : Cap) → (IsListed (caps_of xs) x → IsListed (caps_of ys) x) × (IsListed (caps_of ys) x → IsListed (caps_of xs) x)
permuted_listed xs ys p x = (
  (λ h. passes_listed x ys (sym (list_any-IsPermutation (same_cap x) xs ys p) ∙ listed_passes x xs h)),
  λ h. passes_listed x xs (list_any-IsPermutation (same_cap x) xs ys p ∙ listed_passes x ys h),
)
