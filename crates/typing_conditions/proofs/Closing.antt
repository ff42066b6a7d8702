-- What closing a `let` does: exactly the variables are bound that are neither in the environment nor held, and none of a node around it.
use Rattle.std.proofs.Common.{◌≡◌, ◌≢◌, ℕ, suc, ◌<◌, ◌≤◌, Bool, true, false, List, length, Some, refl, sym, ◌∙◌, ap, subst, arith, ◌⊎◌, inl, inr}
use Rattle.std.specs.Prelude.{slice_get, All}
use Rattle.std.proofs.lemmas.Bool.{eqb-true}
use Rattle.std.proofs.lemmas.Bool.Decides.{eqb_tells}
use Rattle.std.proofs.lemmas.Option.{slice_get_within}
use Rattle.type_model.specs.Types.{occurs}
use Rattle.type_model.proofs.Applying.{eqb_same}
use Rattle.type_nodes.specs.Nodes.{Node, Var, Rigid, Link, Arrow, Tuple, Con, parts, bound_level, IsClosed}
use Rattle.type_nodes.specs.Readings.{Types}
use Rattle.type_nodes.proofs.Lists.{one_element}
use Rattle.level_unify.specs.Solutions.{Loose, FitsLoosely}
use Rattle.level_unify.proofs.Steps.{cell_at}
use Rattle.typing_laws.proofs.Bools.{no_yes}
use Rattle.typing_conditions.specs.Locals.{IsVar, IsLow, IsOwn, stands_in_any, Within, Refines, Local, IsContext, ClosesAll}
use Rattle.typing_conditions.proofs.Regions.{any_in, in_any, region, region_is, region_var}
use Rattle.typing_conditions.proofs.Steps.{same_node, stands_after, true_or_false, old_or_new}

-- a node that is none of the variables that are bound is as before
same_where : (nodes new : List Node) (J : Types) (R : List ℕ) (level n : ℕ) (c : Node) → ClosesAll nodes new J R level → slice_get nodes n ≡ Some c →
    ((l o : ℕ) → c ≡ Var l o → l ≢ bound_level → level < l → stands_in_any J R n ≡ true → ⊥) → slice_get new n ≡ Some c
same_where nodes new J R level n c closes e isnt = closes.stays n (λ l o f free above h. isnt l o (one_element c (Var l o) (slice_get nodes n) e f) free above h) ∙ e

-- a variable that is bound by closing
pub record IsBoundNow (nodes : List Node) (J : Types) (R : List ℕ) (level n : ℕ) (c d : Node) : Type 0 where
  pub own_level : ℕ
  pub scope : ℕ
  pub was : c ≡ Var own_level scope
  pub free : own_level ≢ bound_level
  pub above : level < own_level
  pub stands : stands_in_any J R n ≡ true
  pub now : d ≡ Var bound_level scope

no_var : (c : Node) → ((l o : ℕ) → c ≡ Var l o → ⊥) ⊎ ((l : ℕ) × (o : ℕ) × (c ≡ Var l o))
no_var (Var l o) = inr (l, o, refl)
no_var Rigid = inl (λ l o e. absurd (cc))
no_var (Link m) = inl (λ l o e. absurd (cc))
no_var (Arrow a b) = inl (λ l o e. absurd (cc))
no_var (Tuple ms) = inl (λ l o e. absurd (cc))
no_var (Con p name ms) = inl (λ l o e. absurd (cc))

-- what became of a node
pub became : (nodes new : List Node) (J : Types) (R : List ℕ) (level n : ℕ) (c : Node) → ClosesAll nodes new J R level → slice_get nodes n ≡ Some c →
    (slice_get new n ≡ Some c) ⊎ ((d : Node) × (slice_get new n ≡ Some d) × IsBoundNow nodes J R level n c d)
became nodes new J R level n c closes e = elim (no_var c) [
  | inl isnt ↦ inl (same_where nodes new J R level n c closes e (λ l o f free above h. isnt l o f))
  | inr (l, o, is) ↦ elim (eqb_tells l bound_level) [
    | inl (_, bound) ↦ inl (same_where nodes new J R level n c closes e (λ l' o' f free above h. free (let g : Var l' o' ≡ Var l o = sym f ∙ is in let g' : l' ≡ l = cc in g' ∙ bound)))
    | inr (_, free) ↦ elim (old_or_new level l) [
      | inr low ↦ inl (same_where nodes new J R level n c closes e (λ l' o' f free' above h. let g : Var l' o' ≡ Var l o = sym f ∙ is in let g' : l' ≡ l = cc in omega arith))
      | inl above ↦ elim (true_or_false (stands_in_any J R n)) [
        | inr not_there ↦ inl (same_where nodes new J R level n c closes e (λ l' o' f free' above' h. no_yes (sym not_there ∙ h)))
        | inl there ↦ inr (Var bound_level o, closes.binds n l o (e ∙ ap (λ k. Some k) is) free above there, record { own_level = l; scope = o; was = is; free = free; above = above; stands = there; now = refl })
      ]
    ]
  ]
]

-- a variable that is free after closing was as it is
pub still_free : (nodes new : List Node) (J : Types) (R : List ℕ) (level u l o : ℕ) → ClosesAll nodes new J R level → slice_get new u ≡ Some (Var l o) → l ≢ bound_level → slice_get nodes u ≡ Some (Var l o)
still_free nodes new J R level u l o closes e free =
    let lt : u < length nodes = (let p = slice_get_within new u (Var l o) e in let q = closes.len in omega arith) in
    let (c, f) = cell_at nodes u lt in
    elim (became nodes new J R level u c closes f) [
      | inl same ↦ f ∙ ap (λ k. Some k) (one_element c (Var l o) (slice_get new u) same e)
      | inr (d, g, b) ↦ absurd (free (
          let h : Var l o ≡ Var bound_level b.scope = one_element (Var l o) d (slice_get new u) e g ∙ b.now in
          let h' : l ≡ bound_level = cc in h'))
    ]

loose_var : (V : Types) (n l o : ℕ) (c : Node) → c ≡ Var l o → FitsLoosely V n c
loose_var V n l o c e = subst (FitsLoosely V n) (sym e) tt

-- what fits, whatever the scopes, is the same before and after
pub closed_loose : (nodes new : List Node) (J : Types) (R : List ℕ) (level : ℕ) → ClosesAll nodes new J R level → (V : Types) → Loose new V → Loose nodes V
closed_loose nodes new J R level closes V h = record {
  each = λ n c e. elim (became nodes new J R level n c closes e) [
    | inl same ↦ h.each n c same
    | inr (d, f, b) ↦ loose_var V n b.own_level b.scope c b.was
  ];
}

-- and the other way round
pub loose_closed : (nodes new : List Node) (J : Types) (R : List ℕ) (level : ℕ) → ClosesAll nodes new J R level → (V : Types) → Loose nodes V → Loose new V
loose_closed nodes new J R level closes V h = record {
  each = λ n d e.
      let lt : n < length nodes = (let p = slice_get_within new n d e in let q = closes.len in omega arith) in
      let (c, f) = cell_at nodes n lt in
      elim (became nodes new J R level n c closes f) [
        | inl same ↦ subst (FitsLoosely V n) (one_element c d (slice_get new n) same e) (h.each n c f)
        | inr (d', g, b) ↦ loose_var V n bound_level b.scope d (one_element d d' (slice_get new n) e g ∙ b.now)
      ];
}

-- a set that has the parts of its nodes still has
parts_of_var : (l o : ℕ) (F : ℕ → Bool) (c : Node) → c ≡ Var l o → All (λ m. F m ≡ true) (parts c)
parts_of_var l o F c e = subst (λ d. All (λ m. F m ≡ true) (parts d)) (sym e) (λ k d lt. absurd (omega arith))

-- so it does after closing
pub closed_closed : (nodes new : List Node) (J : Types) (R : List ℕ) (level : ℕ) → ClosesAll nodes new J R level → (F : ℕ → Bool) → IsClosed nodes F → IsClosed new F
closed_closed nodes new J R level closes F h = record {
  each = λ n d has e.
      let lt : n < length nodes = (let p = slice_get_within new n d e in let q = closes.len in omega arith) in
      let (c, f) = cell_at nodes n lt in
      elim (became nodes new J R level n c closes f) [
        | inl same ↦ subst (λ x. All (λ m. F m ≡ true) (parts x)) (one_element c d (slice_get new n) same e) (h.each n c has f)
        | inr (d', g, b) ↦ parts_of_var bound_level b.scope F d (one_element d d' (slice_get new n) e g ∙ b.now)
      ];
}

closed_before : (nodes new : List Node) (J : Types) (R : List ℕ) (level : ℕ) → ClosesAll nodes new J R level → (F : ℕ → Bool) → IsClosed new F → IsClosed nodes F
closed_before nodes new J R level closes F h = record {
  each = λ n c has e. elim (became nodes new J R level n c closes e) [
    | inl same ↦ h.each n c has same
    | inr (d, g, b) ↦ parts_of_var b.own_level b.scope F c b.was
  ];
}

-- the nodes' own types are the same
pub closed_own : (nodes new : List Node) (J : Types) (R : List ℕ) (level : ℕ) → IsOwn nodes J → ClosesAll nodes new J R level → IsOwn new J
closed_own nodes new J R level own closes = record {
  loose = loose_closed nodes new J R level closes J own.loose;
  vars = λ n l o e.
      let lt : n < length nodes = (let p = slice_get_within new n (Var l o) e in let q = closes.len in omega arith) in
      let (c, f) = cell_at nodes n lt in
      elim (became nodes new J R level n c closes f) [
        | inl same ↦ own.vars n l o (f ∙ ap (λ k. Some k) (one_element c (Var l o) (slice_get new n) same e))
        | inr (d, g, b) ↦ own.vars n b.own_level b.scope (f ∙ ap (λ k. Some k) b.was)
      ];
  comes = λ V h. own.comes V (closed_loose nodes new J R level closes V h);
  only = λ n v lt o.
      let var = own.only n v (let q = closes.len in omega arith) o in
      elim (became nodes new J R level v (Var var.level var.scope) closes var.at) [
        | inl same ↦ record { level = var.level; scope = var.scope; at = same }
        | inr (d, g, b) ↦ record { level = bound_level; scope = b.scope; at = g ∙ ap (λ k. Some k) b.now }
      ];
  known = λ plain. own.known (record { each = λ n p name ms e. elim (became nodes new J R level n (Con p name ms) closes e) [ inl same ↦ plain.each n p name ms same | inr (d, f, b) ↦ absurd (let g = b.was in cc) ] });
  stands = λ n v lt o. record { each = λ F h. (own.stands n v (let q = closes.len in omega arith) o).each F (closed_before nodes new J R level closes F h) };
}

-- and types that are the nodes' own after closing were so before
pub own_reopened : (nodes new : List Node) (J M : Types) (R : List ℕ) (level : ℕ) → IsOwn new M → ClosesAll nodes new J R level → IsOwn nodes M
own_reopened nodes new J M R level own closes = record {
  loose = closed_loose nodes new J R level closes M own.loose;
  vars = λ n l o e. elim (became nodes new J R level n (Var l o) closes e) [ inl same ↦ own.vars n l o same | inr (d, f, b) ↦ own.vars n bound_level b.scope (f ∙ ap (λ k. Some k) b.now) ];
  comes = λ V h. own.comes V (loose_closed nodes new J R level closes V h);
  only = λ n v lt o.
      let var = own.only n v (let q = closes.len in omega arith) o in
      let in_old : v < length nodes = (let p = slice_get_within new v (Var var.level var.scope) var.at in let q = closes.len in omega arith) in
      let (c, f) = cell_at nodes v in_old in
      elim (became nodes new J R level v c closes f) [
        | inl same ↦ record { level = var.level; scope = var.scope; at = f ∙ ap (λ k. Some k) (one_element c (Var var.level var.scope) (slice_get new v) same var.at) }
        | inr (d, g, b) ↦ record { level = b.own_level; scope = b.scope; at = f ∙ ap (λ k. Some k) b.was }
      ];
  known = λ plain. own.known (record {
    each = λ n p name ms e.
        let lt : n < length nodes = (let q = slice_get_within new n (Con p name ms) e in let r = closes.len in omega arith) in
        let (c, f) = cell_at nodes n lt in
        elim (became nodes new J R level n c closes f) [
          | inl same ↦ plain.each n p name ms (f ∙ ap (λ k. Some k) (one_element c (Con p name ms) (slice_get new n) same e))
          | inr (d, g, b) ↦ absurd (let h : Con p name ms ≡ Var bound_level b.scope = one_element (Con p name ms) d (slice_get new n) e g ∙ b.now in cc)
        ];
  });
  stands = λ n v lt o. record { each = λ F h. (own.stands n v (let q = closes.len in omega arith) o).each F (closed_closed nodes new J R level closes F h) };
}

-- The close of a `let` whose group was typed one level further in, from `old` to `nodes`; C are the roots of the environment and of
-- the written types, R the types of the names, and what is held for the level is low.
module _ (old nodes new : List Node) (I J : Types) (C R : List ℕ) (H : ℕ → List ℕ) (level : ℕ)
    (before : IsOwn old I) (between : IsOwn nodes J)
    (context : IsContext old I C level)
    (group : Local old nodes I J C H (suc level))
    (names : (k r : ℕ) → slice_get R k ≡ Some r → (r < length nodes) × Within old C r)
    (held_low : (v l o : ℕ) → stands_in_any J (H level) v ≡ true → slice_get nodes v ≡ Some (Var l o) → l ≢ bound_level → l ≤ level)
    (closes : ClosesAll nodes new J R level) where
  -- an old variable in the type of a name stands in the environment
  old_name_var : (v : ℕ) → IsVar old v → stands_in_any J R v ≡ true → stands_in_any I C v ≡ true
  old_name_var v var h =
      let a = in_any v J R h in
      let n = names a.place a.node a.at in
      let r = region_is old I C before.loose in
      region_var old I C before v var ((between.stands a.node v n.0 a.occurs).each (region old I C) (group.closed (region old I C) r) (n.1.each (region old I C) r))

  in_context : (c u m : ℕ) (k : ℕ) → slice_get C k ≡ Some c → occurs m (I c) ≡ true → occurs u (J m) ≡ true → stands_in_any J C u ≡ true
  in_context c u m k e p q = any_in u J C k c e (stands_after old I J before (group.refines.loose J between.loose) c m u p q)

  from_context : (m u : ℕ) → stands_in_any I C m ≡ true → occurs u (J m) ≡ true → stands_in_any J C u ≡ true
  from_context m u h o = let a = in_any m I C h in in_context a.node u m a.place a.at a.occurs o

  -- a variable of a name's type that isn't above the level is free in the environment, or held
  pub low_is_fixed : (u : ℕ) → stands_in_any J R u ≡ true → IsLow nodes level u → (stands_in_any J C u ≡ true) ⊎ (stands_in_any J (H level) u ≡ true)
  low_is_fixed u h low = elim (group.sources level u (omega arith) low) [
    | inr i ↦ inr i
    | inl s ↦ elim s.within [
      | inr i ↦ inl (from_context s.source u i s.stands)
      | inl same ↦ inl (
          let var : IsVar old u = record { level = s.was.level; scope = s.was.scope; at = ap (slice_get old) (sym same) ∙ s.was.at } in
          from_context u u (old_name_var u var h) (ap (occurs u) (between.vars u low.level low.scope low.at) ∙ eqb_same u))
    ]
  ]

  -- an old free variable reads as no variable that is bound now
  old_stays : (m l o v l' o' : ℕ) → slice_get old m ≡ Some (Var l o) → l ≢ bound_level → occurs v (J m) ≡ true → slice_get nodes v ≡ Some (Var l' o') → level < l' → stands_in_any J R v ≡ true → ⊥
  old_stays m l o v l' o' e free h e' above r = at (region old I C m) refl
    where
      at : (t : Bool) → region old I C m ≡ t → ⊥
      at true t =
          let c = region_var old I C before m (record { level = l; scope = o; at = e }) t in
          let x = group.refines.falls m l o v l' o' e free e' h in
          let y = context.low m l o c e free in omega arith
      at false t =
          let reg = region_is old I C before.loose in
          let e'' = group.outside (region old I C) reg m t ∙ e in
          let s = eqb-true v m (ap (occurs v) (sym (between.vars m l o e'')) ∙ h) in
          let c = old_name_var m (record { level = l; scope = o; at = e }) (subst (λ k. stands_in_any J R k ≡ true) s r) in
          let y = context.low m l o c e free in
          let z : l' ≡ l = same_node nodes m l' o' l o (ap (slice_get nodes) (sym s) ∙ e') e'' in omega arith

  -- the group with its closing refines types
  pub refines_closed : Refines old new J
  refines_closed = record {
    longer = let p = group.refines.longer in let q = closes.len in omega arith;
    loose = λ V h. group.refines.loose V (closed_loose nodes new J R level closes V h);
    bounds = λ b scope e.
        let e'' = group.refines.bounds b scope e in
        closes.stays b (λ l o e' free above stands. free (same_node nodes b l o bound_level scope e' e'')) ∙ e'';
    frees = λ m v f h.
        let g = group.refines.frees m v f h in
        record {
          level = g.level;
          scope = g.scope;
          free = g.free;
          at = closes.stays v (λ l o e free above stands. old_stays m f.level f.scope v l o f.at f.free h e above stands) ∙ g.at;
        };
    falls = λ m l o u l' o' e free e' h.
        let g = group.refines.frees m u (record { level = l; scope = o; at = e; free = free }) h in
        let e'' = closes.stays u (λ k p q free' above stands. old_stays m l o u k p e free h q above stands) in
        group.refines.falls m l o u l' o' e free (sym e'' ∙ e') h;
  }

  -- and touches only what stands in the roots
  pub local_closed : Local old new I J C H level
  local_closed = record {
    refines = refines_closed;
    closed = λ F r. closed_closed nodes new J R level closes F (group.closed F r);
    outside = λ F r n h. closes.stays n (λ l o e free above stands.
        let a = in_any n J R stands in
        let w = names a.place a.node a.at in
        no_yes (sym h ∙ (between.stands a.node n w.0 a.occurs).each F (group.closed F r) (w.1.each F r))) ∙ group.outside F r n h;
    sources = λ k u lt low. group.sources k u (omega arith)
        (record { level = low.level; scope = low.scope; at = still_free nodes new J R level u low.level low.scope closes low.at low.free; free = low.free; low = low.low });
  }
