-- What steps do to variables: none, one after another, unification, and new nodes.
use Rattle.std.proofs.Common.{◌≡◌, ◌≢◌, ℕ, ◌<◌, ◌≤◌, Bool, true, false, List, [], ◌∷◌, length, Some, refl, sym, ◌∙◌, ap, subst, arith, ◌⊎◌, inl, inr}
use Rattle.std.specs.Prelude.{slice_get}
use Rattle.std.proofs.lemmas.Bool.{eqb-true}
use Rattle.std.proofs.lemmas.Option.{slice_get_within}
use Rattle.type_model.specs.Types.{occurs}
use Rattle.type_model.proofs.Applying.{eqb_same, occurs_put, occurs_from}
use Rattle.type_nodes.specs.Nodes.{Node, Var, bound_level, IsClosed}
use Rattle.type_nodes.specs.Readings.{Types}
use Rattle.type_nodes.proofs.Lists.{one_element}
use Rattle.level_unify.specs.Solutions.{Loose, HaveNoBound}
use Rattle.level_unify.specs.Unification.{Unified}
use Rattle.level_unify.proofs.Variants.{stands_occurs}
use Rattle.typing_laws.proofs.Bools.{no_yes}
use Rattle.typing_conditions.specs.Locals.{IsVar, IsFreeVar, IsOwn, stands_in_any, IsRegion, Within, Refines, Local}
use Rattle.typing_conditions.proofs.Regions.{any_in, in_any, region, region_is, region_var}

-- a test holds or fails
pub true_or_false : (b : Bool) → (b ≡ true) ⊎ (b ≡ false)
true_or_false true = inl refl
true_or_false false = inr refl

-- a node has one level
pub same_node : (nodes : List Node) (n l o l' o' : ℕ) → slice_get nodes n ≡ Some (Var l o) → slice_get nodes n ≡ Some (Var l' o') → l ≡ l'
same_node nodes n l o l' o' e f = let g : Var l o ≡ Var l' o' = one_element (Var l o) (Var l' o') (slice_get nodes n) e f in cc

-- what stands in a node in J stands in K in what that is
pub stands_after : (mid : List Node) (J K : Types) → IsOwn mid J → Loose mid K → (n m u : ℕ) → occurs m (J n) ≡ true → occurs u (K m) ≡ true → occurs u (K n) ≡ true
stands_after mid J K own loose n m u p q = ap (occurs u) (own.comes K loose n) ∙ occurs_put K m u (J n) p q

-- and what stands in K stands in something in J
pub stands_before : (mid : List Node) (J K : Types) → IsOwn mid J → Loose mid K → (n u : ℕ) → occurs u (K n) ≡ true → (m : ℕ) × (occurs m (J n) ≡ true) × (occurs u (K m) ≡ true)
stands_before mid J K own loose n u o = occurs_from K u (J n) (ap (occurs u) (sym (own.comes K loose n)) ∙ o)

-- where nothing is done types are refined
pub refines_none : (nodes : List Node) (I : Types) → IsOwn nodes I → Refines nodes nodes I
refines_none nodes I own = record {
  longer = omega arith;
  loose = λ V h. h;
  bounds = λ b scope e. e;
  frees = λ m v f o. let s = eqb-true v m (ap (occurs v) (sym (own.vars m f.level f.scope f.at)) ∙ o) in record { level = f.level; scope = f.scope; at = ap (slice_get nodes) s ∙ f.at; free = f.free };
  falls = λ m l o u l' o' e f e' h.
      let s = eqb-true u m (ap (occurs u) (sym (own.vars m l o e)) ∙ h) in
      let t : l' ≡ l = same_node nodes m l' o' l o (ap (slice_get nodes) (sym s) ∙ e') e in omega arith;
}

-- one refinement after another
pub refines_then : (old mid new : List Node) (J K : Types) → IsOwn mid J → IsOwn new K → Refines old mid J → Refines mid new K → Refines old new K
refines_then old mid new J K between after one two = record {
  longer = let l = one.longer in let l' = two.longer in omega arith;
  loose = λ V h. one.loose V (two.loose V h);
  bounds = λ b scope e. two.bounds b scope (one.bounds b scope e);
  frees = λ m v f o. let (w, p, q) = stands_before mid J K between (two.loose K after.loose) m v o in two.frees w v (one.frees m w f p) q;
  falls = λ m l o u l' o' e f e' h.
      let (w, p, q) = stands_before mid J K between (two.loose K after.loose) m u h in
      let v = one.frees m w (record { level = l; scope = o; at = e; free = f }) p in
      let a = one.falls m l o w v.level v.scope e f v.at p in
      let b = two.falls w v.level v.scope u l' o' v.at v.free e' q in omega arith;
}

-- where nothing is done nothing is touched
pub local_none : (nodes : List Node) (I : Types) (C : List ℕ) (H : ℕ → List ℕ) (level : ℕ) → IsOwn nodes I → Local nodes nodes I I C H level
local_none nodes I C H level own = record {
  refines = refines_none nodes I own;
  closed = λ F r. r.closed;
  outside = λ F r n h. refl;
  sources = λ k u lt low. inl (record { source = u; was = low; stands = ap (occurs u) (own.vars u low.level low.scope low.at) ∙ eqb_same u; within = inl refl });
}

module _ (old mid new : List Node) (I J K : Types) (C D : List ℕ) (H H' : ℕ → List ℕ) (level : ℕ)
    (before : IsOwn old I) (between : IsOwn mid J) (after : IsOwn new K)
    (one : Local old mid I J C H level) (two : Local mid new J K D H' level)
    (within : (k d : ℕ) → slice_get D k ≡ Some d → Within old C d × (d < length mid))
    (more : (k u : ℕ) → k < level → stands_in_any K (H k) u ≡ true → stands_in_any K (H' k) u ≡ true) where
  then_region : (F : ℕ → Bool) → IsRegion old C F → IsRegion mid D F
  then_region F r = record {
    closed = one.closed F r;
    has = λ k d e. (within k d e).0.each F r;
    made = λ n le. r.made n (let l = one.refines.longer in omega arith);
  }

  mid_loose : Loose mid K
  mid_loose = two.refines.loose K after.loose

  -- an old variable that stands in the roots of the second part stands in those of the first
  pub root_before : (m : ℕ) → IsVar old m → stands_in_any J D m ≡ true → stands_in_any I C m ≡ true
  root_before m var h =
      let a = in_any m J D h in
      let w = within a.place a.node a.at in
      let r = region_is old I C before.loose in
      region_var old I C before m var ((between.stands a.node m w.1 a.occurs).each (region old I C) (one.closed (region old I C) r) (w.0.each (region old I C) r))

  held_after : (k m u : ℕ) → k < level → stands_in_any J (H k) m ≡ true → occurs u (K m) ≡ true → stands_in_any K (H' k) u ≡ true
  held_after k m u lt h o =
      let a = in_any m J (H k) h in
      more k u lt (any_in u K (H k) a.place a.node a.at (stands_after mid J K between mid_loose a.node m u a.occurs o))

  -- what two parts touch, one after the other
  pub local_then : Local old new I K C H' level
  local_then = record {
    refines = refines_then old mid new J K between after one.refines two.refines;
    closed = λ F r. two.closed F (then_region F r);
    outside = λ F r n h. two.outside F (then_region F r) n h ∙ one.outside F r n h;
    sources = λ k u lt low. elim (two.sources k u lt low) [
      | inr held ↦ inr held
      | inl s ↦ elim (one.sources k s.source lt s.was) [
        | inr held ↦ inr (held_after k s.source u lt held s.stands)
        | inl t ↦ inl (record {
          source = t.source;
          was = t.was;
          stands = stands_after mid J K between mid_loose t.source s.source u t.stands s.stands;
          within = elim t.within [
            | inr i ↦ inr i
            | inl same ↦ elim s.within [
              | inl same' ↦ inl (same ∙ same')
              | inr i ↦ inr (root_before t.source (record { level = t.was.level; scope = t.was.scope; at = t.was.at }) (subst (λ j. stands_in_any J D j ≡ true) (sym same) i))
            ]
          ];
        })
      ]
    ];
  }

-- two nodes without bound variables were made one
module _ (old new : List Node) (I J : Types) (a b level : ℕ) (before : IsOwn old I) (after : IsOwn new J) (u : Unified old new a b) (none : HaveNoBound old a b)
    (tight : (V : Types) → Loose new V → Loose old V) where
  abbrev roots : List ℕ
  roots = a ∷ b ∷ []

  inside : (m : ℕ) → IsVar old m → m < length new
  inside m var = let p = slice_get_within old m (Var var.level var.scope) var.at in let q = u.len in omega arith

  unify_frees : (m v : ℕ) → IsFreeVar old m → occurs v (J m) ≡ true → IsFreeVar new v
  unify_frees m v f o = elim (true_or_false (none.set m)) [
    | inl h ↦
        let var = after.only m v (inside m (record { level = f.level; scope = f.scope; at = f.at })) o in
        let s = (after.stands m v (inside m (record { level = f.level; scope = f.scope; at = f.at })) o).each none.set (u.closed none.set none.closed none.left none.right) h in
        let (l, o', at, was, stays) = u.still v var.level var.scope var.at in
        record { level = var.level; scope = var.scope; at = var.at; free = stays (none.free v l o' s at) }
    | inr h ↦
        let e = u.outside none.set none.closed none.left none.right m h ∙ f.at in
        let s = eqb-true v m (ap (occurs v) (sym (after.vars m f.level f.scope e)) ∙ o) in
        record { level = f.level; scope = f.scope; at = ap (slice_get new) s ∙ e; free = f.free }
  ]

  -- making two nodes one refines types
  pub refines_unified : Refines old new J
  refines_unified = record {
    longer = let e = u.len in omega arith;
    loose = tight;
    bounds = u.bound;
    frees = unify_frees;
    falls = λ m l o v l' o' e f e' h.
        let g = unify_frees m v (record { level = l; scope = o; at = e; free = f }) h in
        let s = same_node new v l' o' g.level g.scope e' g.at in
        (u.level_least v l' o' e' (λ x. g.free (sym s ∙ x))).bound m l o e f (after.stands m v (inside m (record { level = l; scope = o; at = e })) h);
  }

  -- and touches only what stands in the two
  pub local_unified : Local old new I J roots (λ k. []) level
  local_unified = record {
    refines = refines_unified;
    closed = λ F r. u.closed F r.closed (r.has 0 a refl) (r.has 1 b refl);
    outside = λ F r n h. u.outside F r.closed (r.has 0 a refl) (r.has 1 b refl) n h;
    sources = λ k v lt low.
        let (m, l, o, e, f, stands, is) = (u.level_least v low.level low.scope low.at low.free).source in
        let occurs_here = stands_occurs new J v m after.loose (after.vars v low.level low.scope low.at) stands in
        inl (record {
          source = m;
          was = record { level = l; scope = o; at = e; free = f; low = let p = low.low in omega arith };
          stands = occurs_here;
          within = at m l o e occurs_here (region old I roots m) refl;
        });
  }
    where
      at : (m l o : ℕ) → slice_get old m ≡ Some (Var l o) → {v : ℕ} → occurs v (J m) ≡ true → (t : Bool) → region old I roots m ≡ t → (m ≡ v) ⊎ (stands_in_any I roots m ≡ true)
      at m l o e h true r = inr (region_var old I roots before m (record { level = l; scope = o; at = e }) r)
      at m l o e {v} h false r =
          let reg = region_is old I roots before.loose in
          let e' = u.outside (region old I roots) reg.closed (reg.has 0 a refl) (reg.has 1 b refl) m r ∙ e in
          inl (sym (eqb-true v m (ap (occurs v) (sym (after.vars m l o e')) ∙ h)))

-- nodes from before are as they were
pub record Grows (old new : List Node) : Type 0 where
  pub longer : length old ≤ length new
  pub node : (n : ℕ) → n < length old → slice_get new n ≡ slice_get old n

-- a number is below a bound or not
pub old_or_new : (n k : ℕ) → (n < k) ⊎ (k ≤ n)
old_or_new n k = grind arith

-- New nodes, where those of before are as they were.
module _ (old new : List Node) (J : Types) (after : IsOwn new J) (grows : Grows old new) where
  stays : (n : ℕ) (c : Node) → slice_get old n ≡ Some c → slice_get new n ≡ Some c
  stays n c e = grows.node n (slice_get_within old n c e) ∙ e

  itself : (m u l o : ℕ) → slice_get old m ≡ Some (Var l o) → occurs u (J m) ≡ true → u ≡ m
  itself m u l o e h = eqb-true u m (ap (occurs u) (sym (after.vars m l o (stays m (Var l o) e))) ∙ h)

  -- where the nodes of before are as they were types are refined
  pub refines_made : Refines old new J
  refines_made = record {
    longer = grows.longer;
    loose = λ V h. record { each = λ n c e. h.each n c (stays n c e) };
    bounds = λ b scope e. stays b (Var bound_level scope) e;
    frees = λ m v f o. let s = itself m v f.level f.scope f.at o in record { level = f.level; scope = f.scope; at = ap (slice_get new) s ∙ stays m (Var f.level f.scope) f.at; free = f.free };
    falls = λ m l o u l' o' e f e' h.
        let s = itself m u l o e h in
        let t : l' ≡ l = same_node new m l' o' l o (ap (slice_get new) (sym s) ∙ e') (stays m (Var l o) e) in omega arith;
  }

-- New nodes, whose variables are of the present level or held.
module _ (old new : List Node) (I J : Types) (C : List ℕ) (H : ℕ → List ℕ) (level : ℕ) (before : IsOwn old I) (after : IsOwn new J) (grows : Grows old new)
    (parts_in : (F : ℕ → Bool) → IsRegion old C F → IsClosed new F)
    (vars : (k u l o : ℕ) → k < level → length old ≤ u → slice_get new u ≡ Some (Var l o) → l ≢ bound_level → l ≤ k → stands_in_any J (H k) u ≡ true) where
  -- only what stands in the roots is touched
  pub local_made : Local old new I J C H level
  local_made = record {
    refines = refines_made old new J after grows;
    closed = parts_in;
    outside = λ F r n h. elim (old_or_new n (length old)) [ inl lt ↦ grows.node n lt | inr le ↦ absurd (no_yes (sym h ∙ r.made n le)) ];
    sources = λ k u lt low. elim (old_or_new u (length old)) [
      | inl was ↦ inl (record {
        source = u;
        was = record { level = low.level; scope = low.scope; at = sym (grows.node u was) ∙ low.at; free = low.free; low = low.low };
        stands = ap (occurs u) (after.vars u low.level low.scope low.at) ∙ eqb_same u;
        within = inl refl;
      })
      | inr le ↦ inr (vars k u low.level low.scope lt le low.at low.free low.low)
    ];
  }
