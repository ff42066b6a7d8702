-- Unification as a whole: making two nodes one, and then lowering.
use Rattle.std.proofs.Common.{◌≡◌, ◌≢◌, ℕ, zero, suc, ◌<◌, true, false, eqb, ◌||◌, List, [], ◌∷◌, length, map, get_or, Some, refl, sym, ◌∙◌, ap, subst, arith, inl, inr}
use Rattle.std.specs.Prelude.{slice_get, All}
use Rattle.std.proofs.lemmas.Option.{slice_get_within}
use Rattle.std.proofs.lemmas.Bool.{eqb-true, eq-eqb}
use Rattle.type_model.specs.Types.{Typ, Typs, types_of, occurs, occurs_any}
use Rattle.type_model.specs.Types.{Typ as type, Typs as types}
use Rattle.type_model.specs.Limits.{IsInScope, AreInScope, IsUnder, AreUnder}
use Rattle.type_nodes.specs.Nodes.{Node, Var, Rigid, Link, Arrow, Tuple, Con, parts, bound_level, IsSound, IsClosed}
use Rattle.type_nodes.specs.Readings.{Types, FitsNode, Fits, IsReading}
use Rattle.type_nodes.proofs.Lists.{same_or_other, one_element}
use Rattle.type_nodes.proofs.Identity.{identity, identity_reads}
use Rattle.level_unify.specs.Walks.{StandsIn}
use Rattle.level_unify.specs.Solutions.{Loose, FitsLoosely, Solved, Tracked, HaveNoBound, NeverOne, Cap, IsListed}
use Rattle.level_unify.specs.Limits.{FitsUnder, KeepCaps, SameButLimits, CappedTo, NeverCapped, LeastOf}
use Rattle.level_unify.specs.Unification.{NeverAlike, IsUnscopedReading, IsAlikeUnscoped, IsLeast, ChangesWithin, Unified}
use Rattle.level_unify.proofs.Steps.{cell_at}
use Rattle.level_unify.proofs.SameNodes.{same_closed, var_before, stands_before, stands_after}

-- without levels a limit is a scope
mutual
  scoped_under : (level scope : ℕ) (t : Typ) → IsInScope scope t → IsUnder (λ v. 0) level scope t
  scoped_under level scope (type.Var v) h = omega arith
  scoped_under level scope (type.Arrow a b) h = (scoped_under level scope a h.0, scoped_under level scope b h.1)
  scoped_under level scope (type.Tuple ts) h = all_scoped_under level scope ts h
  scoped_under level scope (type.Con o ts) h = (h.0, all_scoped_under level scope ts h.1)

  all_scoped_under : (level scope : ℕ) (ts : Typs) → AreInScope scope ts → AreUnder (λ v. 0) level scope ts
  all_scoped_under level scope types.Nil h = tt
  all_scoped_under level scope (types.Cons t ts) h = (scoped_under level scope t h.0, all_scoped_under level scope ts h.1)

mutual
  under_scoped : (L : ℕ → ℕ) (level scope : ℕ) (t : Typ) → IsUnder L level scope t → IsInScope scope t
  under_scoped L level scope (type.Var v) h = tt
  under_scoped L level scope (type.Arrow a b) h = (under_scoped L level scope a h.0, under_scoped L level scope b h.1)
  under_scoped L level scope (type.Tuple ts) h = all_under_scoped L level scope ts h
  under_scoped L level scope (type.Con o ts) h = (h.0, all_under_scoped L level scope ts h.1)

  all_under_scoped : (L : ℕ → ℕ) (level scope : ℕ) (ts : Typs) → AreUnder L level scope ts → AreInScope scope ts
  all_under_scoped L level scope types.Nil h = tt
  all_under_scoped L level scope (types.Cons t ts) h = (under_scoped L level scope t h.0, all_under_scoped L level scope ts h.1)

loosely : (V : Types) (n : ℕ) (c : Node) → FitsNode V n c → FitsLoosely V n c
loosely V n (Var l o) h = tt
loosely V n Rigid h = h
loosely V n (Link m) h = h
loosely V n (Arrow a b) h = h
loosely V n (Tuple ms) h = h
loosely V n (Con p name ms) h = h

-- what fits fits whatever the scopes, and keeps to them
pub fits_loosely : (nodes : List Node) (V : Types) → Fits nodes V → Loose nodes V
fits_loosely nodes V fits = record { each = λ n c e. loosely V n c (fits.each n c e) }

pub fits_under : (nodes : List Node) (V : Types) → Fits nodes V → FitsUnder (λ v. 0) nodes V
fits_under nodes V fits = record { loose = fits_loosely nodes V fits; under = λ n l o e free. scoped_under l o (V n) (fits.each n (Var l o) e free) }

node_fits : (L : ℕ → ℕ) (nodes : List Node) (V : Types) (n : ℕ) (c : Node) → slice_get nodes n ≡ Some c → FitsUnder L nodes V → FitsNode V n c
node_fits L nodes V n (Var l o) e h = λ free. under_scoped L l o (V n) (h.under n l o e free)
node_fits L nodes V n Rigid e h = h.loose.each n Rigid e
node_fits L nodes V n (Link m) e h = h.loose.each n (Link m) e
node_fits L nodes V n (Arrow a b) e h = h.loose.each n (Arrow a b) e
node_fits L nodes V n (Tuple ms) e h = h.loose.each n (Tuple ms) e
node_fits L nodes V n (Con p name ms) e h = h.loose.each n (Con p name ms) e

pub under_fits : (L : ℕ → ℕ) (nodes : List Node) (V : Types) → FitsUnder L nodes V → Fits nodes V
under_fits L nodes V h = record { each = λ n c e. node_fits L nodes V n c e h }

-- the types that keep to the limits before, told by those between and the limits of the variables that were bound
between : (old mid : List Node) (a b : ℕ) (caps : List Cap) → Solved old mid a b → Tracked old mid a b caps → (L : ℕ → ℕ) (V : Types) → FitsUnder L old V → V a ≡ V b → FitsUnder L mid V × KeepCaps L V caps
between old mid a b caps s t L V fits same = (
  record {
    loose = s.forth V fits.loose same;
    under = λ n l o e free. fits.under n l o (s.stays.links n (Var l o) e tt) free;
  },
  λ x h. let w = t.was x h in fits.under x.0 x.1 x.2 w.0 w.1,
)

before : (old mid : List Node) (a b : ℕ) (caps : List Cap) → Solved old mid a b → Tracked old mid a b caps → (L : ℕ → ℕ) (V : Types) → FitsUnder L mid V → KeepCaps L V caps → FitsUnder L old V × (V a ≡ V b)
before old mid a b caps s t L V fits keep =
    let h = s.back V fits.loose in (
      record {
        loose = h.0;
        under = λ n l o e free. elim (t.gone n l o e) [ inl there ↦ fits.under n l o there free | inr listed ↦ keep (n, l, o) listed ];
      },
      h.1,
    )

-- where no bound variable stands in a and b, one that is in no free variable's type is in the type of nothing that stands in them
pub apart_within : (nodes : List Node) (a b : ℕ) (V : Types) → IsSound nodes → (none : HaveNoBound nodes a b) → Loose nodes V → (v : ℕ) →
    ((n level scope : ℕ) → slice_get nodes n ≡ Some (Var level scope) → level ≢ bound_level → occurs v (V n) ≡ false) → (n : ℕ) → n < length nodes → none.set n ≡ true → occurs v (V n) ≡ false
apart_within nodes a b V (rank, ranked) none fits v apart n lt has = go (suc (rank n)) n (omega arith) lt has
  where
    any : (ms : List ℕ) → All (λ m. occurs v (V m) ≡ false) ms → occurs_any v (types_of (map V ms)) ≡ false
    any [] h = refl
    any (m ∷ ms) h = let p = h zero zero (omega arith) in let q = any ms (λ k d l. h (suc k) d (omega arith)) in (λ i. p i || q i)

    cell : (m : ℕ) (c : Node) → slice_get nodes m ≡ Some c → none.set m ≡ true → All (λ k. occurs v (V k) ≡ false) (parts c) → occurs v (V m) ≡ false
    cell m (Var l o) e h ps = apart m l o e (none.free m l o h e)
    cell m Rigid e h ps = ap (occurs v) (fits.each m Rigid e)
    cell m (Link k) e h ps = ap (occurs v) (fits.each m (Link k) e) ∙ ps zero zero (omega arith)
    cell m (Arrow c d) e h ps =
        let p = ps zero zero (omega arith) in let q = ps 1 zero (omega arith) in
        ap (occurs v) (fits.each m (Arrow c d) e) ∙ (λ i. p i || q i)
    cell m (Tuple ms) e h ps = ap (occurs v) (fits.each m (Tuple ms) e) ∙ any ms ps
    cell m (Con p name ms) e h ps = ap (occurs v) (fits.each m (Con p name ms) e) ∙ any ms ps

    go : (k m : ℕ) → rank m < k → m < length nodes → none.set m ≡ true → occurs v (V m) ≡ false
    go zero m low inside h = absurd (omega arith)
    go (suc k) m low inside h =
        let (c, e) = cell_at nodes m inside in
        let down = ranked.each m c e in
        let more = none.closed.each m c h e in
        cell m c e h (λ j d l. go k (get_or (parts c) j d) (let y = (down j d l).1 in omega arith) (down j d l).0 (more j d l))

-- a bound variable stays one
bound_stays : (old mid : List Node) (a b : ℕ) (caps : List Cap) → Tracked old mid a b caps → (n scope : ℕ) → slice_get old n ≡ Some (Var bound_level scope) → slice_get mid n ≡ Some (Var bound_level scope)
bound_stays old mid a b caps t n scope e = elim (t.gone n bound_level scope e) [ inl there ↦ there | inr listed ↦ absurd ((t.was (n, bound_level, scope) listed).1 refl) ]

-- each variable that was bound leads to no bound variable
caps_free : (old mid : List Node) (a b : ℕ) (caps : List Cap) → HaveNoBound old a b → Solved old mid a b → Tracked old mid a b caps → (x : Cap) → IsListed caps x → HaveNoBound mid x.0 x.0
caps_free old mid a b caps none s t x listed =
    let has = t.within none.set none.closed none.left none.right x listed in
    record {
      set = none.set;
      closed = s.stays.closed none.set none.closed none.left none.right;
      left = has;
      right = has;
      free = λ n level scope h at. none.free n level scope h (s.stays.links n (Var level scope) at tt);
    }

-- the readings whatever the scopes, before and between
unscoped_back : (old mid : List Node) (a b : ℕ) (caps : List Cap) (V : Types) → IsSound mid → HaveNoBound old a b → Solved old mid a b → Tracked old mid a b caps → IsUnscopedReading mid V →
    IsUnscopedReading old V × (V a ≡ V b)
unscoped_back old mid a b caps V sound none s t r =
    let h = s.back V r.loose in (
      record {
        loose = h.0;
        own = λ n scope e. r.own n scope (bound_stays old mid a b caps t n scope e);
        apart = λ n level scope v scope' e free e'.
            let there = bound_stays old mid a b caps t v scope' e' in
            elim (t.gone n level scope e) [
              | inl still ↦ r.apart n level scope v scope' still free there
              | inr listed ↦
                  let no = caps_free old mid a b caps none s t (n, level, scope) listed in
                  apart_within mid n n V sound no r.loose v (λ m l o at f. r.apart m l o v scope' at f there) n
                  (let l = within old n (Var level scope) e in let k = s.len in omega arith) no.left
            ];
      },
      h.1,
    )
  where
    within : (nodes : List Node) (m : ℕ) (c : Node) → slice_get nodes m ≡ Some c → m < length nodes
    within nodes m c e = slice_get_within nodes m c e

unscoped_forth : (old mid : List Node) (a b : ℕ) (V : Types) → Solved old mid a b → IsUnscopedReading old V → V a ≡ V b → IsUnscopedReading mid V
unscoped_forth old mid a b V s r same = record {
  loose = s.forth V r.loose same;
  own = λ n scope e. r.own n scope (s.stays.links n (Var bound_level scope) e tt);
  apart = λ n level scope v scope' e free e'. r.apart n level scope v scope' (s.stays.links n (Var level scope) e tt) free (s.stays.links v (Var bound_level scope') e' tt);
}

unscoped_of : (nodes : List Node) (V : Types) → IsReading nodes V → IsUnscopedReading nodes V
unscoped_of nodes V r = record { loose = fits_loosely nodes V r.fits; own = r.own; apart = r.apart }

reading_of : (L : ℕ → ℕ) (nodes : List Node) (V : Types) → FitsUnder L nodes V → IsUnscopedReading nodes V → IsReading nodes V
reading_of L nodes V fits r = record { fits = under_fits L nodes V fits; own = r.own; apart = r.apart }

bound_before : (mid new : List Node) → SameButLimits mid new → (n scope : ℕ) → slice_get new n ≡ Some (Var bound_level scope) → slice_get mid n ≡ Some (Var bound_level scope)
bound_before mid new same n scope e =
    let (l, o, at, p, q) = var_before mid new same n bound_level scope e in
    elim (same_or_other l bound_level) [
      | inl b ↦ let u = p b in at ∙ (λ i. Some (Var (b i) (sym u.1 i)))
      | inr f ↦ absurd (q f refl)
    ]

bound_after : (mid new : List Node) → SameButLimits mid new → (n scope : ℕ) → slice_get mid n ≡ Some (Var bound_level scope) → slice_get new n ≡ Some (Var bound_level scope)
bound_after mid new same n scope e =
    let (d, at, (l', o', f, p, q)) = same.each n (Var bound_level scope) e in
    let u = p refl in at ∙ ap (λ x. Some x) f ∙ (λ i. Some (Var (u.0 i) (u.1 i)))

free_after : (mid new : List Node) → SameButLimits mid new → (n level scope : ℕ) → slice_get mid n ≡ Some (Var level scope) → level ≢ bound_level → (l : ℕ) × (o : ℕ) × (slice_get new n ≡ Some (Var l o)) × (l ≢ bound_level)
free_after mid new same n level scope e free = let (d, at, (l', o', f, p, q)) = same.each n (Var level scope) e in (l', o', at ∙ ap (λ x. Some x) f, q free)

-- the readings whatever the scopes, between and after
unscoped_after : (mid new : List Node) (V : Types) → SameButLimits mid new → Loose new V → IsUnscopedReading mid V → IsUnscopedReading new V
unscoped_after mid new V same loose r = record {
  loose = loose;
  own = λ n scope e. r.own n scope (bound_before mid new same n scope e);
  apart = λ n level scope v scope' e free e'.
      let (l, o, at, p, q) = var_before mid new same n level scope e in
      r.apart n l o v scope' at (λ b. free ((p b).0 ∙ b)) (bound_before mid new same v scope' e');
}

unscoped_mid : (mid new : List Node) (V : Types) → SameButLimits mid new → Loose mid V → IsUnscopedReading new V → IsUnscopedReading mid V
unscoped_mid mid new V same loose r = record {
  loose = loose;
  own = λ n scope e. r.own n scope (bound_after mid new same n scope e);
  apart = λ n level scope v scope' e free e'.
      let (l, o, at, f) = free_after mid new same n level scope e free in
      r.apart n l o v scope' at f (bound_after mid new same v scope' e');
}

-- only a variable itself stands in it
stands_in_var : (nodes : List Node) (n m level scope : ℕ) → slice_get nodes m ≡ Some (Var level scope) → StandsIn nodes n m → n ≡ m
stands_in_var nodes n m level scope at h = eqb-true n m (h.each (λ k. eqb k m) closed (eq-eqb m m refl))
  where
    closed : IsClosed nodes (λ k. eqb k m)
    closed = record {
      each = λ k c has e.
          let f : Var level scope ≡ c = one_element (Var level scope) c (slice_get nodes m) at (subst (λ j. slice_get nodes j ≡ Some c) (eqb-true k m has) e) in
          subst (λ x. All (λ j. eqb j m ≡ true) (parts x)) f (λ i d lt. absurd (omega arith));
    }

-- the least of a variable's own limit and those of the variables that were bound is the least of all in whose types it occurs
least_of : (old mid new : List Node) (a b : ℕ) (caps : List Cap) → Solved old mid a b → Tracked old mid a b caps → SameButLimits mid new →
    (n l o : ℕ) → slice_get mid n ≡ Some (Var l o) → l ≢ bound_level → (value : ℕ) (of : ℕ → ℕ → ℕ) (cap : Cap → ℕ) → ((x : Cap) → cap x ≡ of x.1 x.2) → {own : ℕ} → own ≡ of l o →
    LeastOf mid caps (length caps) n own value cap → IsLeast old new n value of
least_of old mid new a b caps s t same n l o at free value of cap is {own} own_is h = record {
  bound = λ m level scope e open' stands.
      let there = stands_before mid new same n m stands in
      elim (t.gone m level scope e) [
        | inl still ↦
            let f : n ≡ m = stands_in_var mid n m level scope still there in
            let g : Var l o ≡ Var level scope = one_element (Var l o) (Var level scope) (slice_get mid n) at (ap (slice_get mid) f ∙ still) in
            let p : l ≡ level = cc in
            let q : o ≡ scope = cc in
            let w : own ≡ of level scope = own_is ∙ (λ i. of (p i) (q i)) in
            let u = h.own_bound in omega arith
        | inr (k, listed) ↦
            let u = h.bound k (m, level, scope) (slice_get_within caps k (m, level, scope) listed) listed there in
            let w = is (m, level, scope) in omega arith
      ];
  source = elim h.source [
    | inl e ↦ (n, l, o, s.stays.links n (Var l o) at tt, free, record { each = λ F closed has. has }, e ∙ own_is)
    | inr (x, listed, stands, e) ↦ let w = t.was x listed in (x.0, x.1, x.2, w.0, w.1, stands_after mid new same n x.0 stands, e ∙ is x)
  ];
}

pub changes_within : (old mid new : List Node) (a b : ℕ) (caps : List Cap) → Solved old mid a b → Tracked old mid a b caps → CappedTo mid new caps (length caps) → ChangesWithin old new a b
changes_within old mid new a b caps s t c = record {
  outside = λ F closed has has' n lacks.
      c.outside F (s.stays.closed F closed has has') (λ x listed. t.within F closed has has' x listed) n lacks ∙ s.stays.outside F closed has has' n lacks;
  bound = λ n scope e. bound_after mid new c.same n scope (bound_stays old mid a b caps t n scope e);
}

pub unified : (old mid new : List Node) (a b : ℕ) (caps : List Cap) → IsSound mid → HaveNoBound old a b → Solved old mid a b → Tracked old mid a b caps → CappedTo mid new caps (length caps) → Unified old new a b
unified old mid new a b caps sound none s t c = record {
  len = c.same.len ∙ s.len;
  reads = λ V r same.
      let f = forth (λ v. 0) V (fits_under old V r.fits) same in
      reading_of (λ v. 0) new V f (unscoped_after mid new V c.same f.loose (unscoped_forth old mid a b V s (unscoped_of old V r) same));
  read = λ V r.
      let f = fits_under new V r.fits in
      let m = middle (λ v. 0) V f in
      let u = unscoped_back old mid a b caps V sound none s t (unscoped_mid mid new V c.same m.0.loose (unscoped_of new V r)) in
      (reading_of (λ v. 0) old V (before old mid a b caps s t (λ v. 0) V m.0 m.1).0 u.0, u.1);
  fits = forth;
  fitted = λ L V f. let m = middle L V f in before old mid a b caps s t L V m.0 m.1;
  level_least = λ n level scope e free.
      let w = c.least n level scope e free in
      least_of old mid new a b caps s t c.same n w.own_level w.own_scope w.was w.free level (λ l o. l) (λ x. x.1) (λ x. refl) refl w.level_least;
  scope_least = λ n level scope e free.
      let w = c.least n level scope e free in
      least_of old mid new a b caps s t c.same n w.own_level w.own_scope w.was w.free scope (λ l o. o) (λ x. x.2) (λ x. refl) refl w.scope_least;
  closed = λ F closed has has'. same_closed mid new c.same F (s.stays.closed F closed has has');
  outside = (changes_within old mid new a b caps s t c).outside;
  bound = (changes_within old mid new a b caps s t c).bound;
  still = λ n level scope e.
      let (l, o, at, p, q) = var_before mid new c.same n level scope e in
      (l, o, s.stays.links n (Var l o) at tt, (λ b. (p b).0 ∙ b), q);
}
  where
    forth : (L : ℕ → ℕ) (V : Types) → FitsUnder L old V → V a ≡ V b → FitsUnder L new V
    forth L V fits same = let m = between old mid a b caps s t L V fits same in c.forth L V m.0 m.1

    middle : (L : ℕ → ℕ) (V : Types) → FitsUnder L new V → FitsUnder L mid V × KeepCaps L V caps
    middle L V fits =
        let h = c.back (caps_free old mid a b caps none s t) L V fits in
        (h.0, λ x (k, e). h.1 k x (slice_get_within caps k x e) e)

-- nothing that fits whatever the scopes: no reading, and none whatever the scopes
pub never_one : (old : List Node) (a b : ℕ) → NeverOne old a b → NeverAlike old a b × (IsAlikeUnscoped old a b → ⊥)
never_one old a b h = (record { never = λ V r same. h.never V (fits_loosely old V r.fits) same }, λ (V, r, same). h.never V r.loose same)

-- the limits keep them apart: no reading, and one whatever the scopes
pub never_scoped : (old mid : List Node) (a b : ℕ) (caps : List Cap) → IsSound mid → HaveNoBound old a b → Solved old mid a b → Tracked old mid a b caps → NeverCapped mid caps → NeverAlike old a b × IsAlikeUnscoped old a b
never_scoped old mid a b caps sound none s t h = (
  record { never = λ V r same. let m = between old mid a b caps s t (λ v. 0) V (fits_under old V r.fits) same in h.never (λ v. 0) V m.0 m.1 },
  (
      let u = unscoped_back old mid a b caps (identity sound.0 mid) sound none s t (unscoped_of mid (identity sound.0 mid) (identity_reads mid sound.0 sound.1)) in
      (identity sound.0 mid, u.0, u.1)
      ),
)
