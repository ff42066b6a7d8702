-- Lowering levels first and then scopes is lowering both.
use Rattle.std.proofs.Common.{◌≡◌, ◌≢◌, ℕ, zero, suc, ◌-◌, ◌<◌, ◌≤◌, min, max, true, List, [], ◌∷◌, length, get_or, Some, refl, sym, ◌∙◌, ap, subst, arith, ◌⊎◌, inl, inr}
use Rattle.std.specs.Prelude.{slice_get, Result, Ok, Err, OnOk, IfErr}
use Rattle.std.specs.List.Sorted.{IsPermutation}
use Rattle.std.proofs.lemmas.Option.{slice_get_within}
use Rattle.type_model.specs.Limits.{no_scope, IsUnder}
use Rattle.type_model.proofs.Limiting.{under_both}
use Rattle.type_nodes.specs.Nodes.{Node, Var, bound_level}
use Rattle.type_nodes.specs.Readings.{Types}
use Rattle.type_nodes.proofs.Lists.{same_or_other, one_element}
use Rattle.level_unify.specs.declared.limits.Pass.{Pass}
use Rattle.level_unify.specs.declared.limits.Pass.TheVariants.{Levels, Scopes}
use Rattle.level_unify.specs.declared.solve.Limit.{Limit}
use Rattle.level_unify.specs.declared.solve.Stop.{Stop}
use Rattle.level_unify.specs.declared.solve.Stop.TheVariants as stop
use Rattle.level_unify.specs.Walks.{StandsIn}
use Rattle.level_unify.specs.Solutions.{Cap, IsListed, cap_of, caps_of, HaveNoBound}
use Rattle.level_unify.specs.Limits.{KeepCaps, ChangesSmall, LeastOf, LeastLimits, CappedTo, NeverCapped, highest_level, cap_in, caps_in}
use Rattle.level_unify.proofs.Numbers.{cap_get}
use Rattle.level_unify.proofs.Recording.{permuted_listed}
use Rattle.level_unify.proofs.SameNodes.{same_trans, same_closed, stands_before, stands_after}
use Rattle.level_unify.proofs.Under.{under_more}
use Rattle.level_unify.proofs.Capping.{none_after, changes_small}

-- a list has each limit of another as it is in one pass, and no more
pub record IsPassOf (pass : Pass) (caps part : List Cap) : Type 0 where
  pub here : (x : Cap) → IsListed caps x → IsListed part (cap_in pass x)
  pub from : (x : Cap) → IsListed part x → (y : Cap) × IsListed caps y × (x ≡ cap_in pass y)

listed_here : (pass : Pass) (caps : List Cap) (k : ℕ) (x : Cap) → slice_get caps k ≡ Some x → slice_get (caps_in pass caps) k ≡ Some (cap_in pass x)
listed_here pass [] k x e = absurd (cc)
listed_here pass (y ∷ caps) zero x e = let f : y ≡ x = cc in ap (λ z. Some (cap_in pass z)) f
listed_here pass (y ∷ caps) (suc k) x e = listed_here pass caps k x e

listed_from : (pass : Pass) (caps : List Cap) (k : ℕ) (x : Cap) → slice_get (caps_in pass caps) k ≡ Some x → (y : Cap) × (slice_get caps k ≡ Some y) × (x ≡ cap_in pass y)
listed_from pass [] k x e = absurd (cc)
listed_from pass (y ∷ caps) zero x e = let f : cap_in pass y ≡ x = cc in (y, refl, sym f)
listed_from pass (y ∷ caps) (suc k) x e = listed_from pass caps k x e

-- the limit at a place of the list in one pass
pub pass_get : (pass : Pass) (ls : List Limit) (k : ℕ) (d y : Limit) → k < length ls → cap_of y ≡ cap_in pass (cap_of (get_or ls k d)) → slice_get (caps_in pass (caps_of ls)) k ≡ Some (cap_of y)
pass_get pass ls k d y lt e = listed_here pass (caps_of ls) k (cap_of (get_or ls k d)) (cap_get ls k d lt) ∙ ap (λ x. Some x) (sym e)

pub pass_var : (pass : Pass) (x : Cap) → (cap_in pass x).0 ≡ x.0
pass_var Levels x = refl
pass_var Scopes x = refl

max_below : (l b : ℕ) → max l (b - 1) ≡ b → l ≡ b
max_below l b e = grind arith

pub pass_free : (pass : Pass) (x : Cap) → x.1 ≢ bound_level → (cap_in pass x).1 ≢ bound_level
pass_free Levels x free = free
pass_free Scopes x free = λ e. free (max_below x.1 bound_level e)

-- a pass over the limits in another order
pub pass_of : (pass : Pass) (xs ys zs : List Limit) → IsPermutation xs ys → zs ≡ ys → IsPassOf pass (caps_of xs) (caps_in pass (caps_of zs))
pass_of pass xs ys zs p same = record {
  here = λ x l. let (k, e) = (listed x).0 l in (k, listed_here pass (caps_of zs) k x e);
  from = λ x (k, e). let (y, f, g) = listed_from pass (caps_of zs) k x e in (y, (listed y).1 (k, f), g);
}
  where
    listed : (x : Cap) → (IsListed (caps_of xs) x → IsListed (caps_of zs) x) × (IsListed (caps_of zs) x → IsListed (caps_of xs) x)
    listed x = permuted_listed xs zs (subst (IsPermutation xs) (sym same) p) x

least_left : (a b : ℕ) → min a (max a b) ≡ a
least_left a b = grind arith

least_right : (a b : ℕ) → min (max a b) a ≡ a
least_right a b = grind arith

more_left : (a b : ℕ) → a ≤ max a b
more_left a b = grind arith

more_right : (a b : ℕ) → b ≤ max a b
more_right a b = grind arith

-- types that keep to the limits keep to them in each pass
keep_levels : (caps part : List Cap) → IsPassOf Levels caps part → (L : ℕ → ℕ) (V : Types) → KeepCaps L V caps → KeepCaps L V part
keep_levels caps part p L V keep x l =
    let (y, l', e) = p.from x l in
    subst (λ (z : Cap). IsUnder L z.1 z.2 (V z.0)) (sym e) (under_more L y.1 y.2 y.1 (max y.2 no_scope) (V y.0) (omega arith) (more_left y.2 no_scope) (keep y l'))

keep_scopes : (caps part : List Cap) → IsPassOf Scopes caps part → (L : ℕ → ℕ) (V : Types) → KeepCaps L V caps → KeepCaps L V part
keep_scopes caps part p L V keep x l =
    let (y, l', e) = p.from x l in
    subst (λ (z : Cap). IsUnder L z.1 z.2 (V z.0)) (sym e) (under_more L y.1 y.2 (max y.1 highest_level) y.2 (V y.0) (more_left y.1 highest_level) (omega arith) (keep y l'))

-- and what keeps to a limit in both passes keeps to it
keep_both : (L : ℕ → ℕ) (V : Types) (x : Cap) → IsUnder L x.1 (max x.2 no_scope) (V x.0) → IsUnder L (max x.1 highest_level) x.2 (V x.0) → IsUnder L x.1 x.2 (V x.0)
keep_both L V x h k =
    let u = under_both L x.1 (max x.2 no_scope) (max x.1 highest_level) x.2 (V x.0) h k in
    subst (λ l. IsUnder L l x.2 (V x.0)) (least_left x.1 highest_level) (subst (λ s. IsUnder L (min x.1 (max x.1 highest_level)) s (V x.0)) (least_right x.2 no_scope) u)

-- what holds of the variables of all limits holds in one pass
in_pass : (P : ℕ → Type 0) (pass : Pass) (caps part : List Cap) → IsPassOf pass caps part → ((x : Cap) → (cap_in pass x).0 ≡ x.0) → ((x : Cap) → IsListed caps x → P x.0) → (x : Cap) → IsListed part x → P x.0
in_pass P pass caps part p same h x l = let (y, l', e) = p.from x l in subst P (sym (ap (λ (z : Cap). z.0) e ∙ same y)) (h y l')

-- a limit that is no lower than a number, and that a lesser one is equal to, is that number
same_value : (own value limit : ℕ) → value ≤ own → own ≤ limit → value ≡ limit → value ≡ own
same_value own value limit p q e = omega arith

below_bound : (l b : ℕ) → l ≤ b → l ≢ b → l ≤ b - 1
below_bound l b le other = elim (same_or_other l b) [ inl e ↦ absurd (other e) | inr f ↦ at (split l b le) ]
  where
    split : (x y : ℕ) → x ≤ y → (x ≡ y) ⊎ (x < y)
    split x y h = grind arith

    at : (l ≡ b) ⊎ (l < b) → l ≤ b - 1
    at (inl e) = absurd (other e)
    at (inr lt) = omega arith

-- the pass over the levels leaves a scope as it was, and the pass over the scopes a level
scope_left : (old mid : List Node) (caps part : List Cap) → IsPassOf Levels caps part → ChangesSmall old mid → (n l o l' o' : ℕ) → slice_get old n ≡ Some (Var l o) → slice_get mid n ≡ Some (Var l' o') →
    LeastOf old part (length part) n o o' (λ x. x.2) → o' ≡ o
scope_left old mid caps part p small n l o l' o' at at' least = elim (small n (Var l o) at) [
  | inl f ↦ let g : Var l' o' ≡ Var l o = one_element (Var l' o') (Var l o) (slice_get mid n) at' f in cc
  | inr low ↦ elim least.source [
    | inl e ↦ e
    | inr (x, listed, stands, e) ↦
        let (y, inside, f) = p.from x listed in
        let g : x.2 ≡ max y.2 no_scope = ap (λ (z : Cap). z.2) f in
        let m = more_right y.2 no_scope in
        same_value o o' (max y.2 no_scope) least.own_bound (let a = low.1 in omega arith) (e ∙ g)
  ]
]

level_left : (old mid : List Node) (caps part : List Cap) → IsPassOf Scopes caps part → ChangesSmall old mid → (n l o l' o' : ℕ) → slice_get old n ≡ Some (Var l o) → slice_get mid n ≡ Some (Var l' o') →
    l ≢ bound_level → LeastOf old part (length part) n l l' (λ x. x.1) → l' ≡ l
level_left old mid caps part p small n l o l' o' at at' free least = elim (small n (Var l o) at) [
  | inl f ↦ let g : Var l' o' ≡ Var l o = one_element (Var l' o') (Var l o) (slice_get mid n) at' f in cc
  | inr low ↦ elim least.source [
    | inl e ↦ e
    | inr (x, listed, stands, e) ↦
        let (y, inside, f) = p.from x listed in
        let g : x.1 ≡ max y.1 highest_level = ap (λ (z : Cap). z.1) f in
        let m = more_right y.1 highest_level in
        let b = below_bound l bound_level low.0 free in
        same_value l l' (max y.1 highest_level) least.own_bound (omega arith) (e ∙ g)
  ]
]

-- the least of the limits in the pass that lowers them is the least of the limits
least_all : (old now : List Node) (pass : Pass) (caps part : List Cap) → IsPassOf pass caps part → ((n m : ℕ) → (StandsIn old n m → StandsIn now n m) × (StandsIn now n m → StandsIn old n m)) →
    (of : Cap → ℕ) → ((x : Cap) → ((cap_in pass x).0 ≡ x.0) × (of (cap_in pass x) ≡ of x)) → (n own own' value value' : ℕ) → own' ≡ own → value' ≡ value →
    LeastOf now part (length part) n own' value' of → LeastOf old caps (length caps) n own value of
least_all old now pass caps part p alike of same n own own' value value' e f h = record {
  own_bound = let b = h.own_bound in omega arith;
  bound = λ k x lt at stands.
      let (j, at') = p.here x (k, at) in
      let b = h.bound j (cap_in pass x) (slice_get_within part j (cap_in pass x) at') at' (subst (StandsIn now n) (sym (same x).0) ((alike n x.0).0 stands)) in
      let g = (same x).1 in omega arith;
  source = elim h.source [
    | inl g ↦ inl (sym f ∙ g ∙ e)
    | inr (x, listed, stands, g) ↦
        let (y, l, i) = p.from x listed in
        inr (y, l, (alike n y.0).1 (subst (StandsIn now n) (ap (λ (z : Cap). z.0) i ∙ (same y).0) stands), sym f ∙ g ∙ ap of i ∙ (same y).1)
  ];
}

least_both : (old mid new : List Node) (caps levels scopes : List Cap) → IsPassOf Levels caps levels → IsPassOf Scopes caps scopes → CappedTo old mid levels (length levels) → CappedTo mid new scopes (length scopes) →
    (n level scope : ℕ) → slice_get new n ≡ Some (Var level scope) → level ≢ bound_level → LeastLimits old caps (length caps) n level scope
least_both old mid new caps levels scopes p q h k n level scope e free =
    let b = k.least n level scope e free in
    let a = h.least n b.own_level b.own_scope b.was b.free in
    let f = level_left mid new caps scopes q k.small n b.own_level b.own_scope level scope b.was e b.free b.level_least in
    let g = scope_left old mid caps levels p h.small n a.own_level a.own_scope b.own_level b.own_scope a.was b.was a.scope_least in
    record {
      own_level = a.own_level;
      own_scope = a.own_scope;
      was = a.was;
      free = a.free;
      level_least = least_all old old Levels caps levels p (λ i j. ((λ s. s), (λ s. s))) (λ x. x.1) (λ x. (refl, refl)) n a.own_level a.own_level level b.own_level refl (sym f) a.level_least;
      scope_least =
          least_all old mid Scopes caps scopes q (λ i j. (stands_after old mid h.same i j, stands_before old mid h.same i j)) (λ x. x.2) (λ x. (refl, refl)) n a.own_scope b.own_scope scope scope g refl b.scope_least;
    }

-- both passes
pub both_capped : (old mid new : List Node) (caps levels scopes : List Cap) → IsPassOf Levels caps levels → IsPassOf Scopes caps scopes → CappedTo old mid levels (length levels) → CappedTo mid new scopes (length scopes) →
    CappedTo old new caps (length caps)
both_capped old mid new caps levels scopes p q h k = record {
  same = same_trans old mid new h.same k.same;
  forth = λ L V fits keep. k.forth L V (h.forth L V fits (keep_levels caps levels p L V keep)) (keep_scopes caps scopes q L V keep);
  back = λ none L V fits.
      let (between, high) = k.back (in_pass (λ v. HaveNoBound mid v v) Scopes caps scopes q (λ x. refl) (λ x l. none_after old mid x.0 x.0 h.same (none x l))) L V fits in
      let (before, low) = h.back (in_pass (λ v. HaveNoBound old v v) Levels caps levels p (λ x. refl) none) L V between in (
        before,
        λ i x lt e.
            let (j, at) = p.here x (i, e) in
            let (j', at') = q.here x (i, e) in
            keep_both L V x (low j (cap_in Levels x) (slice_get_within levels j (cap_in Levels x) at) at) (high j' (cap_in Scopes x) (slice_get_within scopes j' (cap_in Scopes x) at') at'),
      );
  least = least_both old mid new caps levels scopes p q h k;
  small = changes_small old mid new h.small k.small;
  outside = λ F closed has n lacks.
      k.outside F (same_closed old mid h.same F closed) (in_pass (λ v. F v ≡ true) Scopes caps scopes q (λ x. refl) has) n lacks ∙ h.outside F closed (in_pass (λ v. F v ≡ true) Levels caps levels p (λ x. refl) has) n lacks;
}

-- what keeps no limit of a pass keeps none of the limits
pub never_levels : (old : List Node) (caps levels : List Cap) → IsPassOf Levels caps levels → NeverCapped old levels → NeverCapped old caps
never_levels old caps levels p h = record { never = λ L V fits keep. h.never L V fits (keep_levels caps levels p L V keep) }

pub never_scopes : (old mid : List Node) (caps levels scopes : List Cap) → IsPassOf Levels caps levels → IsPassOf Scopes caps scopes → CappedTo old mid levels (length levels) → NeverCapped mid scopes → NeverCapped old caps
never_scopes old mid caps levels scopes p q c h = record { never = λ L V fits keep. h.never L V (c.forth L V fits (keep_levels caps levels p L V keep)) (keep_scopes caps scopes q L V keep) }

-- the same of answers
pub capped_in_both : (old mid new : List Node) (caps levels scopes : List Cap) (res : Result (Unit {0}) Stop) → IsPassOf Levels caps levels → IsPassOf Scopes caps scopes → CappedTo old mid levels (length levels) →
    OnOk res (CappedTo mid new scopes (length scopes)) → OnOk res (CappedTo old new caps (length caps))
capped_in_both old mid new caps levels scopes (Ok u) p q h k = both_capped old mid new caps levels scopes p q h k
capped_in_both old mid new caps levels scopes (Err e) p q h k = tt

pub never_in_scopes : (old mid : List Node) (caps levels scopes : List Cap) (res : Result (Unit {0}) Stop) → IsPassOf Levels caps levels → IsPassOf Scopes caps scopes → CappedTo old mid levels (length levels) →
    IfErr res (λ e. e ≡ stop.Clash → NeverCapped mid scopes) → IfErr res (λ e. e ≡ stop.Clash → NeverCapped old caps)
never_in_scopes old mid caps levels scopes (Ok u) p q h k = tt
never_in_scopes old mid caps levels scopes (Err e) p q h k = λ f. never_scopes old mid caps levels scopes p q h (k f)
