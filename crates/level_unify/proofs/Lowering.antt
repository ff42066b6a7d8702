-- Lowering all that stands in a variable that was bound.
use Rattle.std.proofs.Common.{◌≡◌, ◌≢◌, ℕ, zero, suc, ◌+◌, ◌<◌, ◌≤◌, ◌^◌, min, Bool, true, false, eqb, if◌then◌else◌, List, length, get_or, Some, refl, sym, ◌∙◌, ap, subst, arith, ◌⊎◌, inl, inr}
use Rattle.std.specs.Prelude.{slice_get, All}
use Rattle.std.proofs.lemmas.Bool.{eqb-true, eq-eqb}
use Rattle.std.proofs.lemmas.Option.{slice_get_within, slice_get_past, slice_get_cases}
use Rattle.type_model.specs.Limits.{IsUnder}
use Rattle.type_model.proofs.Limiting.{under_both, min_cases}
use Rattle.type_nodes.specs.Nodes.{Node, Var, Rigid, Link, Arrow, Tuple, Con, parts, bound_level, IsSound, IsClosed}
use Rattle.type_nodes.specs.Links.{root, IsNoLink}
use Rattle.type_nodes.specs.Readings.{Types}
use Rattle.type_nodes.proofs.Lists.{same_or_other, one_element}
use Rattle.type_nodes.proofs.Roots.{next_stays, root_here}
use Rattle.level_unify.specs.Walks.{StandsIn, AreRootsIn, ReachedBeyond}
use Rattle.level_unify.specs.Solutions.{Loose, HaveNoBound, Cap}
use Rattle.level_unify.specs.Limits.{FitsUnder, AreLow, lowered, IsAllowed, LoweredOne, SameButLimit, SameButLimits, Lowered, Capped, LoweredVar}
use Rattle.level_unify.proofs.Steps.{cell_at}
use Rattle.level_unify.proofs.Walking.{beyond_cleared, closed_by_roots}
use Rattle.level_unify.proofs.Under.{is_under, tested, passes, each_under, parts_under, under_more, scope_more, min_left, min_right, rigid_allowed, rigid_scoped}
use Rattle.level_unify.proofs.SameNodes.{cell_before, same_cleared, same_loose, loose_same, same_is}

-- what a free variable becomes
lowered_free : (level scope l o : ℕ) → l ≢ bound_level → lowered level scope (Var l o) ≡ Var (min l level) (min o scope)
lowered_free level scope l o free = at (eqb l bound_level) refl
  where
    at : (b : Bool) → eqb l bound_level ≡ b → lowered level scope (Var l o) ≡ Var (min l level) (min o scope)
    at true e = absurd (free (eqb-true l bound_level e))
    at false e = ap (λ b. if b then Var l o else Var (min l level) (min o scope)) e

lowered_bound : (level scope l o : ℕ) → l ≡ bound_level → lowered level scope (Var l o) ≡ Var l o
lowered_bound level scope l o e = ap (λ b. if b then Var l o else Var (min l level) (min o scope)) (eq-eqb l bound_level e)

bound_or_free : (l : ℕ) → (l ≡ bound_level) ⊎ (l ≢ bound_level)
bound_or_free l = same_or_other l bound_level

min_free : (l level : ℕ) → l ≢ bound_level → level ≢ bound_level → min l level ≢ bound_level
min_free l level p q = elim (min_cases l level) [ inl e ↦ λ f. p (sym e ∙ f) | inr e ↦ λ f. q (sym e ∙ f) ]

min_again : (a b : ℕ) → min (min a b) b ≡ min a b
min_again a b = grind arith

-- lowering twice is lowering once
lowered_again : (level scope : ℕ) (c : Node) → level ≢ bound_level → lowered level scope (lowered level scope c) ≡ lowered level scope c
lowered_again level scope (Var l o) free = elim (bound_or_free l) [
  | inl e ↦ ap (lowered level scope) (lowered_bound level scope l o e)
  | inr f ↦
      let once = lowered_free level scope l o f in
      ap (lowered level scope) once ∙ lowered_free level scope (min l level) (min o scope) (min_free l level f free) ∙ (λ i. Var (min_again l level i) (min_again o scope i)) ∙ sym once
]
lowered_again level scope Rigid free = refl
lowered_again level scope (Link m) free = refl
lowered_again level scope (Arrow a b) free = refl
lowered_again level scope (Tuple ms) free = refl
lowered_again level scope (Con p name ms) free = refl

-- lowering keeps what a node allows
allowed_lowered : (level scope : ℕ) (c : Node) → IsAllowed scope (lowered level scope c) → IsAllowed scope c
allowed_lowered level scope (Var l o) h = tt
allowed_lowered level scope Rigid h = h
allowed_lowered level scope (Link m) h = h
allowed_lowered level scope (Arrow a b) h = h
allowed_lowered level scope (Tuple ms) h = h
allowed_lowered level scope (Con p name ms) h = h

lowered_allowed : (level scope : ℕ) (c : Node) → IsAllowed scope c → IsAllowed scope (lowered level scope c)
lowered_allowed level scope (Var l o) h = elim (bound_or_free l) [
  | inl e ↦ subst (IsAllowed scope) (sym (lowered_bound level scope l o e)) tt
  | inr f ↦ subst (IsAllowed scope) (sym (lowered_free level scope l o f)) tt
]
lowered_allowed level scope Rigid h = h
lowered_allowed level scope (Link m) h = h
lowered_allowed level scope (Arrow a b) h = h
lowered_allowed level scope (Tuple ms) h = h
lowered_allowed level scope (Con p name ms) h = h

-- a lowered node is the same but for its limit
lowered_same : (level scope : ℕ) (c : Node) → level ≢ bound_level → SameButLimit c (lowered level scope c)
lowered_same level scope (Var l o) free = elim (bound_or_free l) [
  | inl e ↦ same_is (Var l o) (lowered level scope (Var l o)) (lowered_bound level scope l o e)
  | inr f ↦ (min l level, min o scope, lowered_free level scope l o f, (λ e. absurd (f e)), λ e. min_free l level f free)
]
lowered_same level scope Rigid free = refl
lowered_same level scope (Link m) free = refl
lowered_same level scope (Arrow a b) free = refl
lowered_same level scope (Tuple ms) free = refl
lowered_same level scope (Con p name ms) free = refl

pub lowered_nodes : (old new : List Node) (level scope v : ℕ) (found : List ℕ) (at : ℕ) → level ≢ bound_level → Lowered old new level scope v found at → SameButLimits old new
lowered_nodes old new level scope v found at free h = record {
  len = h.len;
  each = λ n c e. elim (h.each n c e) [
    | inl same ↦ (c, same, same_is c c refl)
    | inr (low, stands) ↦ (lowered level scope c, low, lowered_same level scope c free)
  ];
}

pub lowered_start : (nodes : List Node) (level scope v : ℕ) (found : List ℕ) → Lowered nodes nodes level scope v found 0
lowered_start nodes level scope v found = record { len = refl; each = λ n c e. inl e; small = λ n c e. inl e; done = λ k n c lt e e'. absurd (omega arith) }

-- one node more
pub lowered_on : (old now new : List Node) (level scope v : ℕ) (found : List ℕ) (at n : ℕ) → level ≢ bound_level → AreRootsIn old v found → slice_get found at ≡ Some n →
    Lowered old now level scope v found at → LoweredOne now new level scope n → Lowered old new level scope v found (at + 1)
lowered_on old now new level scope v found at n free reached here h one = record {
  len = one.len ∙ h.len;
  each = λ m c e. elim (same_or_other m n) [
    | inl same ↦ inr ((own m c e same).0, subst (λ k. StandsIn old k v) (sym same) (reached.each at n here).2)
    | inr other ↦ elim (h.each m c e) [
      | inl f ↦ inl (one.others m other ∙ f)
      | inr (f, stands) ↦ inr (one.others m other ∙ f, stands)
    ]
  ];
  small = λ m c e. elim (same_or_other m n) [
    | inl same ↦ inr (elim (h.small m c e) [ inl f ↦ one.small c (subst (λ k. slice_get now k ≡ Some c) same f) | inr low ↦ low ])
    | inr other ↦ elim (h.small m c e) [ inl f ↦ inl (one.others m other ∙ f) | inr low ↦ inr low ]
  ];
  done = λ k m c lt f e. elim (same_or_other m n) [
    | inl same ↦ own m c e same
    | inr other ↦
        let away : k ≢ at = λ same. other (one_element m n (slice_get found at) (subst (λ j. slice_get found j ≡ Some m) same f) here) in
        let d = h.done k m c (omega arith) f e in
        (one.others m other ∙ d.0, d.1)
  ];
}
  where
    own : (m : ℕ) (c : Node) → slice_get old m ≡ Some c → m ≡ n → (slice_get new m ≡ Some (lowered level scope c)) × IsAllowed scope c
    own m c e same =
        let e' : slice_get old n ≡ Some c = subst (λ k. slice_get old k ≡ Some c) same e in
        elim (h.each n c e') [
          | inl f ↦ let o = one.own c f in (ap (slice_get new) same ∙ o.0, o.1)
          | inr (f, stands) ↦
              let o = one.own (lowered level scope c) f in
              (ap (slice_get new) same ∙ o.0 ∙ ap (λ x. Some x) (lowered_again level scope c free), allowed_lowered level scope c o.1)
        ]

-- what stands in a node whose type is under a limit has its type under it
pub stands_under : (nodes : List Node) (L : ℕ → ℕ) (V : Types) (l s n v : ℕ) → Loose nodes V → StandsIn nodes n v → IsUnder L l s (V v) → IsUnder L l s (V n)
stands_under nodes L V l s n v fits stands h = tested L l s (V n) (stands.each F closed (passes L l s (V v) h))
  where
    F : ℕ → Bool
    F m = is_under L l s (V m)

    closed : IsClosed nodes F
    closed = record {
      each = λ m c has e. λ k d lt. passes L l s (V (get_or (parts c) k d)) (parts_under L l s V m c (fits.each m c e) (tested L l s (V m) has) k d lt);
    }

-- the limits from before and the new one give the lower ones
pub lowered_forth : (old new : List Node) (level scope v : ℕ) (found : List ℕ) (at : ℕ) → level ≢ bound_level → Lowered old new level scope v found at → (L : ℕ → ℕ) (V : Types) →
    FitsUnder L old V → IsUnder L level scope (V v) → FitsUnder L new V
lowered_forth old new level scope v found at free h L V fits under = record {
  loose = same_loose old new same V fits.loose;
  under = λ n l o e unbound. let (c, e', s) = cell_before old new same n (Var l o) e in go n l o c e unbound e' (h.each n c e');
}
  where
    same : SameButLimits old new
    same = lowered_nodes old new level scope v found at free h

    of_var : (n l o : ℕ) (c : Node) → slice_get old n ≡ Some c → Var l o ≡ lowered level scope c → l ≢ bound_level → IsUnder L level scope (V n) → IsUnder L l o (V n)
    of_var n l o (Var l0 o0) e f unbound u = elim (bound_or_free l0) [
      | inl b ↦ absurd (let g : Var l o ≡ Var l0 o0 = f ∙ lowered_bound level scope l0 o0 b in let p : l ≡ l0 = cc in unbound (p ∙ b))
      | inr away ↦
          let g : Var l o ≡ Var (min l0 level) (min o0 scope) = f ∙ lowered_free level scope l0 o0 away in
          let p : min l0 level ≡ l = cc in
          let q : min o0 scope ≡ o = cc in
          let w = under_both L l0 o0 level scope (V n) (fits.under n l0 o0 e away) u in
          subst (λ x. IsUnder L x o (V n)) p (subst (λ x. IsUnder L (min l0 level) x (V n)) q w)
    ]
    of_var n l o Rigid e f unbound u = absurd (cc)
    of_var n l o (Link m) e f unbound u = absurd (cc)
    of_var n l o (Arrow a b) e f unbound u = absurd (cc)
    of_var n l o (Tuple ms) e f unbound u = absurd (cc)
    of_var n l o (Con p name ms) e f unbound u = absurd (cc)

    go : (n l o : ℕ) (c : Node) → slice_get new n ≡ Some (Var l o) → l ≢ bound_level → slice_get old n ≡ Some c →
        (slice_get new n ≡ Some c) ⊎ ((slice_get new n ≡ Some (lowered level scope c)) × StandsIn old n v) → IsUnder L l o (V n)
    go n l o c e unbound e' (inl f) = fits.under n l o (e' ∙ sym f ∙ e) unbound
    go n l o c e unbound e' (inr (f, stands)) =
        of_var n l o c e' (one_element (Var l o) (lowered level scope c) (slice_get new n) e f) unbound (stands_under old L V level scope n v fits.loose stands under)

-- the lower limits give the limits from before
limits_before : (old new : List Node) (level scope v : ℕ) (found : List ℕ) (at : ℕ) → level ≢ bound_level → Lowered old new level scope v found at → (L : ℕ → ℕ) (V : Types) →
    FitsUnder L new V → FitsUnder L old V
limits_before old new level scope v found at free h L V fits = record {
  loose = loose_same old new (lowered_nodes old new level scope v found at free h) V fits.loose;
  under = λ n l o e unbound. elim (h.each n (Var l o) e) [
    | inl f ↦ fits.under n l o f unbound
    | inr (f, stands) ↦
        under_more L (min l level) (min o scope) l o (V n) (min_left l level) (min_left o scope)
        (fits.under n (min l level) (min o scope) (f ∙ ap (λ x. Some x) (lowered_free level scope l o unbound)) (min_free l level unbound free))
  ];
}

-- what is done after a walk is lowered, where what was done before is low
pub done_lowered : (old new : List Node) (level scope v : ℕ) (before done : ℕ → Bool) (found : List ℕ) (at : ℕ) → AreLow old level scope before → ReachedBeyond old before done v found → length found ≤ at →
    Lowered old new level scope v found at → (n : ℕ) (c : Node) → done n ≡ true → slice_get old n ≡ Some c → (slice_get new n ≡ Some (lowered level scope c)) × IsAllowed scope c
done_lowered old new level scope v before done found at low reached all h n c has e = elim (reached.listed n has) [
  | inl b ↦
      let l = low.low n c b e in
      (elim (h.each n c e) [ inl f ↦ f ∙ ap (λ x. Some x) (sym l.0) | inr (f, stands) ↦ f ], l.1)
  | inr (k, f) ↦ h.done k n c (let w = slice_get_within found k n f in omega arith) f e
]

-- and the new one
limit_after : (old new : List Node) (level scope v : ℕ) (before done : ℕ → Bool) (found : List ℕ) (at : ℕ) → level ≢ bound_level → IsSound old → v < length old → AreLow old level scope before →
    ReachedBeyond old before done v found → length found ≤ at → HaveNoBound old v v → Lowered old new level scope v found at → (L : ℕ → ℕ) (V : Types) → FitsUnder L new V → IsUnder L level scope (V v)
limit_after old new level scope v before done found at free (rank, ranked) lt low reached all none h L V fits = go (suc (rank v)) v (omega arith) lt none.left reached.start
  where
    loose : Loose old V
    loose = loose_same old new (lowered_nodes old new level scope v found at free h) V fits.loose

    closed : IsClosed old (λ n. done (root old n))
    closed = closed_by_roots old done (rank, ranked) (beyond_cleared old before done v found low.cleared reached)

    -- what is known of a node of the set that is no link
    known : (n : ℕ) (c : Node) → slice_get old n ≡ Some c → IsNoLink c → done (root old n) ≡ true → (slice_get new n ≡ Some (lowered level scope c)) × IsAllowed scope c
    known n c e is has = done_lowered old new level scope v before done found at low reached all h n c (ap done (sym (root_here old n (next_stays old n c e is))) ∙ has) e

    cell : (n : ℕ) (c : Node) → slice_get old n ≡ Some c → none.set n ≡ true → done (root old n) ≡ true → All (λ m. IsUnder L level scope (V m)) (parts c) → IsUnder L level scope (V n)
    cell n (Var l o) e inside has ps =
        let k = known n (Var l o) e tt has in
        let unbound = none.free n l o inside e in
        under_more L (min l level) (min o scope) level scope (V n) (min_right l level) (min_right o scope)
        (fits.under n (min l level) (min o scope) (k.0 ∙ ap (λ x. Some x) (lowered_free level scope l o unbound)) (min_free l level unbound free))
    cell n Rigid e inside has ps = subst (IsUnder L level scope) (sym (loose.each n Rigid e)) (rigid_allowed L level scope n (known n Rigid e tt has).1)
    cell n (Link m) e inside has ps = subst (IsUnder L level scope) (sym (loose.each n (Link m) e)) (ps zero zero (omega arith))
    cell n (Arrow a b) e inside has ps = subst (IsUnder L level scope) (sym (loose.each n (Arrow a b) e)) (ps zero zero (omega arith), ps 1 zero (omega arith))
    cell n (Tuple ms) e inside has ps = subst (IsUnder L level scope) (sym (loose.each n (Tuple ms) e)) (each_under L level scope V ms ps)
    cell n (Con p name ms) e inside has ps = subst (IsUnder L level scope) (sym (loose.each n (Con p name ms) e)) ((known n (Con p name ms) e tt has).1, each_under L level scope V ms ps)

    go : (k n : ℕ) → rank n < k → n < length old → none.set n ≡ true → done (root old n) ≡ true → IsUnder L level scope (V n)
    go zero n deep inside set has = absurd (omega arith)
    go (suc k) n deep inside set has =
        let (c, e) = cell_at old n inside in
        let down = ranked.each n c e in
        let more = closed.each n c has e in
        let more' = none.closed.each n c set e in
        cell n c e set has (λ j d l. go k (get_or (parts c) j d) (let x = (down j d l).1 in omega arith) (down j d l).0 (more' j d l) (more j d l))

pub lowered_back : (old new : List Node) (level scope v : ℕ) (before done : ℕ → Bool) (found : List ℕ) (at : ℕ) → level ≢ bound_level → IsSound old → v < length old → AreLow old level scope before →
    ReachedBeyond old before done v found → length found ≤ at → HaveNoBound old v v → Lowered old new level scope v found at → (L : ℕ → ℕ) (V : Types) → FitsUnder L new V → FitsUnder L old V × IsUnder L level scope (V v)
lowered_back old new level scope v before done found at free sound lt low reached all none h L V fits =
    (limits_before old new level scope v found at free h L V fits, limit_after old new level scope v before done found at free sound lt low reached all none h L V fits)

-- a node that isn't allowed keeps the type from the limit
pub never_allowed : (old : List Node) (level scope n v : ℕ) (c : Node) → scope < 2 ^ 64 → slice_get old n ≡ Some c → StandsIn old n v → (IsAllowed scope c → ⊥) → (L : ℕ → ℕ) (V : Types) →
    FitsUnder L old V → IsUnder L level scope (V v) → ⊥
never_allowed old level scope n v c small e stands not L V fits under = go c e not (stands_under old L V level scope n v fits.loose stands under)
  where
    go : (d : Node) → slice_get old n ≡ Some d → (IsAllowed scope d → ⊥) → IsUnder L level scope (V n) → ⊥
    go (Var l o) f bad u = bad tt
    go Rigid f bad u = bad (rigid_scoped L level scope n small (subst (IsUnder L level scope) (fits.loose.each n Rigid f) u))
    go (Link m) f bad u = bad tt
    go (Arrow a b) f bad u = bad tt
    go (Tuple ms) f bad u = bad tt
    go (Con p name ms) f bad u = bad (subst (IsUnder L level scope) (fits.loose.each n (Con p name ms) f) u).0

-- the same, for a node that may have been lowered
pub never_lowered : (old now : List Node) (level scope v : ℕ) (found : List ℕ) (at n : ℕ) → scope < 2 ^ 64 → n < length old → AreRootsIn old v found → slice_get found at ≡ Some n → Lowered old now level scope v found at →
    ((c : Node) → slice_get now n ≡ Some c → IsAllowed scope c → ⊥) → (L : ℕ → ℕ) (V : Types) → FitsUnder L old V → IsUnder L level scope (V v) → ⊥
never_lowered old now level scope v found at n small lt reached here h not L V fits under =
    let (c, e) = cell_at old n lt in
    never_allowed old level scope n v c small e (reached.each at n here).2
    (elim (h.each n c e) [ inl f ↦ not c f | inr (f, stands) ↦ λ a. not (lowered level scope c) f (lowered_allowed level scope c a) ]) L V fits under

-- a limit that a low variable keeps
low_var : (level scope l o : ℕ) → lowered level scope (Var l o) ≡ Var l o → l ≢ bound_level → (l ≤ level) × (o ≤ scope)
low_var level scope l o e free =
    let g : Var (min l level) (min o scope) ≡ Var l o = sym (lowered_free level scope l o free) ∙ e in
    let p : min l level ≡ l = cc in
    let q : min o scope ≡ o = cc in
    let a = min_right l level in let b = min_right o scope in
    (omega arith, omega arith)

-- what a free variable became
lowered_var : (old new : List Node) (x : Cap) (before done : ℕ → Bool) (found : List ℕ) → x.1 ≢ bound_level → IsSound old → AreLow old x.1 x.2 before → ReachedBeyond old before done x.0 found →
    Lowered old new x.1 x.2 x.0 found (length found) → (n level scope : ℕ) → slice_get new n ≡ Some (Var level scope) → level ≢ bound_level → LoweredVar old x n level scope
lowered_var old new x before done found free sound low reached h n level scope e unbound =
    let (c, at, s) = cell_before old new (lowered_nodes old new x.1 x.2 x.0 found (length found) free h) n (Var level scope) e in of_cell c at s
  where
    lower : (l o : ℕ) → slice_get old n ≡ Some (Var l o) → slice_get new n ≡ Some (lowered x.1 x.2 (Var l o)) → StandsIn old n x.0 → LoweredVar old x n level scope
    lower l o at f stands = elim (bound_or_free l) [
      | inl b ↦ absurd (
          let g : Var level scope ≡ Var l o = one_element (Var level scope) (Var l o) (slice_get new n) e (f ∙ ap (λ y. Some y) (lowered_bound x.1 x.2 l o b)) in
          let p : level ≡ l = cc in unbound (p ∙ b))
      | inr away ↦
          let g : Var level scope ≡ Var (min l x.1) (min o x.2) = one_element (Var level scope) (Var (min l x.1) (min o x.2)) (slice_get new n) e (f ∙ ap (λ y. Some y) (lowered_free x.1 x.2 l o away)) in
          let p : level ≡ min l x.1 = cc in
          let q : scope ≡ min o x.2 = cc in
          record { own_level = l; own_scope = o; was = at; now = inl (stands, p, q) }
    ]

    same : (l o : ℕ) → slice_get old n ≡ Some (Var l o) → slice_get new n ≡ Some (Var l o) → (StandsIn old n x.0 → l ≢ bound_level → (l ≤ x.1) × (o ≤ x.2)) → LoweredVar old x n level scope
    same l o at f keeps =
        let g : Var level scope ≡ Var l o = one_element (Var level scope) (Var l o) (slice_get new n) e f in
        let p : level ≡ l = cc in
        let q : scope ≡ o = cc in
        record { own_level = l; own_scope = o; was = at; now = inr ((λ s. keeps s (λ b. unbound (p ∙ b))), p, q) }

    by_set : (b : Bool) → done n ≡ b → (l o : ℕ) → slice_get old n ≡ Some (Var l o) → LoweredVar old x n level scope
    by_set true has l o at = elim (reached.listed n has) [
      | inl b ↦
          let k = low.low n (Var l o) b at in
          let d = done_lowered old new x.1 x.2 x.0 before done found (length found) low reached (omega arith) h n (Var l o) has at in
          same l o at (d.0 ∙ ap (λ y. Some y) k.0) (λ s away. low_var x.1 x.2 l o k.0 away)
      | inr (k, f) ↦
          let d = h.done k n (Var l o) (slice_get_within found k n f) f at in
          lower l o at d.0 (reached.roots.each k n f).2
    ]
    by_set false lacks l o at =
        let not : StandsIn old n x.0 → ⊥ = λ s. (
        let y : done (root old n) ≡ true = s.each (λ m. done (root old m)) (closed_by_roots old done sound (beyond_cleared old before done x.0 found low.cleared reached)) reached.start in
        let z : done n ≡ true = ap done (sym (root_here old n (next_stays old n (Var l o) at tt))) ∙ y in cc) in
        elim (h.each n (Var l o) at) [ inl f ↦ same l o at f (λ s away. absurd (not s)) | inr (f, stands) ↦ absurd (not stands) ]

    of_cell : (c : Node) → slice_get old n ≡ Some c → SameButLimit c (Var level scope) → LoweredVar old x n level scope
    of_cell (Var l o) at s = by_set (done n) refl l o at
    of_cell Rigid at s = absurd (cc)
    of_cell (Link m) at s = absurd (cc)
    of_cell (Arrow a b) at s = absurd (cc)
    of_cell (Tuple ms) at s = absurd (cc)
    of_cell (Con p name ms) at s = absurd (cc)

-- only what stands in the variable is lowered
lowered_outside : (old new : List Node) (level scope v : ℕ) (found : List ℕ) (at : ℕ) → Lowered old new level scope v found at → (F : ℕ → Bool) → IsClosed old F → F v ≡ true → (n : ℕ) → F n ≡ false →
    slice_get new n ≡ slice_get old n
lowered_outside old new level scope v found at h F closed has n lacks = elim (slice_get_cases old n).1 [
  | inl (c, lt, e, u) ↦ elim (h.each n c e) [
    | inl f ↦ f ∙ sym e
    | inr (f, stands) ↦ absurd (let y = stands.each F closed has in cc)
  ]
  | inr (past, e) ↦ let len = h.len in slice_get_past new n (omega arith) ∙ sym e
]

-- what lowering all that was found says of the types that fit
pub capped : (old new : List Node) (x : Cap) (before done : ℕ → Bool) (found : List ℕ) → x.1 ≢ bound_level → IsSound old → x.0 < length old → AreLow old x.1 x.2 before → ReachedBeyond old before done x.0 found →
    Lowered old new x.1 x.2 x.0 found (length found) → Capped old new x
capped old new x before done found free sound lt low reached h = record {
  same = lowered_nodes old new x.1 x.2 x.0 found (length found) free h;
  forth = λ L V fits under. lowered_forth old new x.1 x.2 x.0 found (length found) free h L V fits under;
  back = λ none L V fits. lowered_back old new x.1 x.2 x.0 before done found (length found) free sound lt low reached (omega arith) none h L V fits;
  least = λ n level scope e unbound. lowered_var old new x before done found free sound low reached h n level scope e unbound;
  small = h.small;
  outside = lowered_outside old new x.1 x.2 x.0 found (length found) h;
}

-- all that is done is low then
pub low_after : (old new : List Node) (level scope v : ℕ) (before done : ℕ → Bool) (found : List ℕ) → level ≢ bound_level → AreLow old level scope before → ReachedBeyond old before done v found →
    Lowered old new level scope v found (length found) → AreLow new level scope done
low_after old new level scope v before done found free low reached h = record {
  cleared = same_cleared old new (lowered_nodes old new level scope v found (length found) free h) done (beyond_cleared old before done v found low.cleared reached);
  low = λ n d has e.
      let (c, at, s) = cell_before old new (lowered_nodes old new level scope v found (length found) free h) n d e in
      let k = done_lowered old new level scope v before done found (length found) low reached (omega arith) h n c has at in
      let f : lowered level scope c ≡ d = one_element (lowered level scope c) d (slice_get new n) k.0 e in
      (ap (lowered level scope) (sym f) ∙ lowered_again level scope c free ∙ f, subst (IsAllowed scope) f (lowered_allowed level scope c k.1));
}

min_of_less : (a b : ℕ) → a ≤ b → min a b ≡ a
min_of_less a b le = grind arith

-- what is low is low under a higher limit
low_cell : (level scope level' scope' : ℕ) (c : Node) → level ≤ level' → scope ≤ scope' → (lowered level scope c ≡ c) × IsAllowed scope c → (lowered level' scope' c ≡ c) × IsAllowed scope' c
low_cell level scope level' scope' (Var l o) p q h = elim (bound_or_free l) [
  | inl b ↦ (lowered_bound level' scope' l o b, tt)
  | inr away ↦
      let k = low_var level scope l o h.0 away in
      (lowered_free level' scope' l o away ∙ (λ i. Var (min_of_less l level' (let a = k.0 in omega arith) i) (min_of_less o scope' (let a = k.1 in omega arith) i)), tt)
]
low_cell level scope level' scope' Rigid p q h = (refl, (let a = h.1 in omega arith))
low_cell level scope level' scope' (Link m) p q h = (refl, tt)
low_cell level scope level' scope' (Arrow a b) p q h = (refl, tt)
low_cell level scope level' scope' (Tuple ms) p q h = (refl, tt)
low_cell level scope level' scope' (Con o name ms) p q h = (refl, scope_more scope scope' o q h.1)

pub low_more : (nodes : List Node) (level scope level' scope' : ℕ) (D : ℕ → Bool) → level ≤ level' → scope ≤ scope' → AreLow nodes level scope D → AreLow nodes level' scope' D
low_more nodes level scope level' scope' D p q h = record { cleared = h.cleared; low = λ n c has e. low_cell level scope level' scope' c p q (h.low n c has e) }

-- nothing is low under every limit
pub none_low : (nodes : List Node) (level scope : ℕ) (D : ℕ → Bool) → ((n : ℕ) → D n ≡ false) → AreLow nodes level scope D
none_low nodes level scope D none = record {
  cleared = record { each = λ n c has. absurd (let e = none n in cc) };
  low = λ n c has. absurd (let e = none n in cc);
}
