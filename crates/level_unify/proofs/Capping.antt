-- Lowering for each variable that was bound.
use Rattle.std.proofs.Common.{◌≡◌, ◌≢◌, ℕ, ◌+◌, ◌<◌, ◌≤◌, min, Bool, List, length, Some, refl, sym, ◌∙◌, ap, subst, arith, inl, inr}
use Rattle.std.specs.Prelude.{slice_get, Result, Ok, Err, OnOk}
use Rattle.type_model.specs.Limits.{IsUnder}
use Rattle.type_nodes.specs.Nodes.{Node, Var, bound_level, IsSound}
use Rattle.type_terms.specs.declared.types.NodeRef.{NodeRef}
use Rattle.type_nodes.specs.Readings.{Types}
use Rattle.type_nodes.specs.Views.{numbers}
use Rattle.type_nodes.proofs.Lists.{same_or_other, one_element}
use Rattle.level_unify.specs.declared.solve.Stop.{Stop}
use Rattle.level_unify.specs.Walks.{ReachedBeyond, StandsIn}
use Rattle.level_unify.specs.Solutions.{Cap, HaveNoBound}
use Rattle.level_unify.specs.Limits.{FitsUnder, SameButLimits, AreLow, Lowered, ChangesSmall, Capped, CappedTo, NeverCapped, LeastOf, LeastLimits}
use Rattle.level_unify.proofs.Lowering.{capped, low_after}
use Rattle.level_unify.proofs.SameNodes.{same_refl, same_trans, same_closed, cell_before, still_free, stands_before, stands_after, var_before}
use Rattle.level_unify.proofs.Under.{min_left, min_right}
use Rattle.type_model.proofs.Limiting.{min_cases}

pub capped_start : (nodes : List Node) (caps : List Cap) → CappedTo nodes nodes caps 0
capped_start nodes caps = record {
  same = same_refl nodes;
  forth = λ L V fits keep. fits;
  back = λ none L V fits. (fits, λ k x lt. absurd (omega arith));
  least = λ n level scope e free. record {
    own_level = level;
    own_scope = scope;
    was = e;
    free = free;
    level_least = record { own_bound = omega arith; bound = λ k x lt. absurd (omega arith); source = inl refl };
    scope_least = record { own_bound = omega arith; bound = λ k x lt. absurd (omega arith); source = inl refl };
  };
  small = λ n c e. inl e;
  outside = λ F closed has n lacks. refl;
}

-- no bound variable occurs after lowering where none did
pub none_after : (old now : List Node) (a b : ℕ) → SameButLimits old now → HaveNoBound old a b → HaveNoBound now a b
none_after old now a b same none = record {
  set = none.set;
  closed = same_closed old now same none.set none.closed;
  left = none.left;
  right = none.right;
  free = λ n level scope has at. let (c, at', s) = cell_before old now same n (Var level scope) at in still_free c level scope s (λ l o e. none.free n l o has (at' ∙ ap (λ x. Some x) e));
}

-- the least with one limit more, where the variable stands in what it limits
least_more : (old : List Node) (caps : List Cap) (at n own value : ℕ) (of : Cap → ℕ) (x : Cap) → slice_get caps at ≡ Some x → StandsIn old n x.0 → LeastOf old caps at n own value of → LeastOf old caps (at + 1) n own (min value (of x)) of
least_more old caps at n own value of x here stands h = record {
  own_bound = let a = min_left value (of x) in let b = h.own_bound in omega arith;
  bound = λ k y lt e s. elim (same_or_other k at) [
    | inl same ↦
        let f : x ≡ y = one_element x y (slice_get caps at) here (subst (λ j. slice_get caps j ≡ Some y) same e) in
        subst (λ z. min value (of x) ≤ of z) f (min_right value (of x))
    | inr other ↦ let a = min_left value (of x) in let b = h.bound k y (omega arith) e s in omega arith
  ];
  source = elim (min_cases value (of x)) [
    | inl e ↦ elim h.source [ inl f ↦ inl (e ∙ f) | inr (y, l, s, f) ↦ inr (y, l, s, e ∙ f) ]
    | inr e ↦ inr (x, (at, here), stands, e)
  ];
}

-- and where its own is no higher
least_same : (old : List Node) (caps : List Cap) (at n own value : ℕ) (of : Cap → ℕ) (x : Cap) → slice_get caps at ≡ Some x → (StandsIn old n x.0 → value ≤ of x) → LeastOf old caps at n own value of →
    LeastOf old caps (at + 1) n own value of
least_same old caps at n own value of x here low h = record {
  own_bound = h.own_bound;
  bound = λ k y lt e s. elim (same_or_other k at) [
    | inl same ↦
        let f : x ≡ y = one_element x y (slice_get caps at) here (subst (λ j. slice_get caps j ≡ Some y) same e) in
        subst (λ (z : Cap). value ≤ of z) f (low (subst (λ (z : Cap). StandsIn old n z.0) (sym f) s))
    | inr other ↦ h.bound k y (omega arith) e s
  ];
  source = h.source;
}

-- one limit more
least_on : (old now new : List Node) (caps : List Cap) (at : ℕ) (x : Cap) → slice_get caps at ≡ Some x → CappedTo old now caps at → Capped now new x →
    (n level scope : ℕ) → slice_get new n ≡ Some (Var level scope) → level ≢ bound_level → LeastLimits old caps (at + 1) n level scope
least_on old now new caps at x here h one n level scope e free =
    let v = one.least n level scope e free in
    let (l, o, was, p, q) = var_before now new one.same n level scope e in
    let g : Var l o ≡ Var v.own_level v.own_scope = one_element (Var l o) (Var v.own_level v.own_scope) (slice_get now n) was v.was in
    let g' : l ≡ v.own_level = cc in
    let open_now : v.own_level ≢ bound_level = λ b. free ((p (g' ∙ b)).0 ∙ g' ∙ b) in
    let w = h.least n v.own_level v.own_scope v.was open_now in
    elim v.now [
      | inl (stands, e', f) ↦
          let s = stands_before old now h.same n x.0 stands in
          record {
            own_level = w.own_level;
            own_scope = w.own_scope;
            was = w.was;
            free = w.free;
            level_least = subst (λ y. LeastOf old caps (at + 1) n w.own_level y (λ z. z.1)) (sym e') (least_more old caps at n w.own_level v.own_level (λ z. z.1) x here s w.level_least);
            scope_least = subst (λ y. LeastOf old caps (at + 1) n w.own_scope y (λ z. z.2)) (sym f) (least_more old caps at n w.own_scope v.own_scope (λ z. z.2) x here s w.scope_least);
          }
      | inr (low, e', f) ↦
          let s : StandsIn old n x.0 → (v.own_level ≤ x.1) × (v.own_scope ≤ x.2) = λ t. low (stands_after old now h.same n x.0 t) in
          record {
            own_level = w.own_level;
            own_scope = w.own_scope;
            was = w.was;
            free = w.free;
            level_least = subst (λ y. LeastOf old caps (at + 1) n w.own_level y (λ z. z.1)) (sym e') (least_same old caps at n w.own_level v.own_level (λ z. z.1) x here (λ t. (s t).0) w.level_least);
            scope_least = subst (λ y. LeastOf old caps (at + 1) n w.own_scope y (λ z. z.2)) (sym f) (least_same old caps at n w.own_scope v.own_scope (λ z. z.2) x here (λ t. (s t).1) w.scope_least);
          }
    ]

pub changes_small : (old now new : List Node) → ChangesSmall old now → ChangesSmall now new → ChangesSmall old new
changes_small old now new h one n c e = elim (h n c e) [ inl f ↦ one n c f | inr low ↦ inr low ]

pub capped_on : (old now new : List Node) (caps : List Cap) (at : ℕ) (x : Cap) → slice_get caps at ≡ Some x → CappedTo old now caps at → Capped now new x → CappedTo old new caps (at + 1)
capped_on old now new caps at x here h one = record {
  same = same_trans old now new h.same one.same;
  forth = λ L V fits keep. one.forth L V (h.forth L V fits keep) (keep x (at, here));
  back = λ none L V fits.
      let (before, under) = one.back (none_after old now x.0 x.0 h.same (none x (at, here))) L V fits in
      let (first, others) = h.back none L V before in (
        first,
        λ k y lt e. elim (same_or_other k at) [
          | inl same ↦
              let f : x ≡ y = one_element x y (slice_get caps at) here (subst (λ j. slice_get caps j ≡ Some y) same e) in
              subst (λ (z : Cap). IsUnder L z.1 z.2 (V z.0)) f under
          | inr other ↦ others k y (omega arith) e
        ],
      );
  least = λ n level scope e free. least_on old now new caps at x here h one n level scope e free;
  small = changes_small old now new h.small one.small;
  outside = λ F closed has n lacks. one.outside F (same_closed old now h.same F closed) (has x (at, here)) n lacks ∙ h.outside F closed has n lacks;
}

pub never_capped : (old now : List Node) (caps : List Cap) (at : ℕ) (x : Cap) → slice_get caps at ≡ Some x → CappedTo old now caps at →
    ((L : ℕ → ℕ) (V : Types) → FitsUnder L now V → IsUnder L x.1 x.2 (V x.0) → ⊥) → NeverCapped old caps
never_capped old now caps at x here h bad = record { never = λ L V fits keep. bad L V (h.forth L V fits keep) (keep x (at, here)) }

-- all limits of the list
pub capped_all : (old now : List Node) (caps : List Cap) (at : ℕ) → length caps ≤ at → CappedTo old now caps at → CappedTo old now caps (length caps)
capped_all old now caps at le h = record {
  same = h.same;
  forth = h.forth;
  back = λ none L V fits. let b = h.back none L V fits in (b.0, λ k x lt e. b.1 k x (omega arith) e);
  least = λ n level scope e free.
      let w = h.least n level scope e free in
      record {
        own_level = w.own_level;
        own_scope = w.own_scope;
        was = w.was;
        free = w.free;
        level_least = fewer old caps at (length caps) le n w.own_level level (λ z. z.1) w.level_least;
        scope_least = fewer old caps at (length caps) le n w.own_scope scope (λ z. z.2) w.scope_least;
      };
  small = h.small;
  outside = h.outside;
}
  where
    fewer : (old' : List Node) (caps' : List Cap) (at' to : ℕ) → to ≤ at' → (n own value : ℕ) (of : Cap → ℕ) → LeastOf old' caps' at' n own value of → LeastOf old' caps' to n own value of
    fewer old' caps' at' to le' n own value of w = record { own_bound = w.own_bound; bound = λ k x lt e s. w.bound k x (omega arith) e s; source = w.source }

-- what lowering all that was found answers
pub capped_answer : (old new : List Node) (x : Cap) (level scope : ℕ) (before done : ℕ → Bool) (found items : List NodeRef) (res : Result (Unit {0}) Stop) → found ≡ items → level ≡ x.1 → scope ≡ x.2 → x.1 ≢ bound_level →
    IsSound old → x.0 < length old → AreLow old x.1 x.2 before → ReachedBeyond old before done x.0 (numbers items) → OnOk res (Lowered old new x.1 x.2 x.0 (numbers found) (length (numbers found))) →
    OnOk res (Capped old new x × AreLow new level scope done)
capped_answer old new x level scope before done found items (Ok u) same p q free sound lt low reached h =
    let h' = subst (λ ns. Lowered old new x.1 x.2 x.0 (numbers ns) (length (numbers ns))) same h in (
      capped old new x before done (numbers items) free sound lt low reached h',
      subst (λ l. AreLow new l scope done) (sym p) (subst (λ o. AreLow new x.1 o done) (sym q) (low_after old new x.1 x.2 x.0 before done (numbers items) free low reached h')),
    )
capped_answer old new x level scope before done found items (Err e) same p q free sound lt low reached h = tt
