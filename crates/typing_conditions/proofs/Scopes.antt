-- By scopes, as levels: a variable of an early scope comes from one of before.
use Rattle.std.proofs.Common.{◌≡◌, ◌≢◌, ℕ, ◌<◌, ◌≤◌, Bool, true, false, List, [], ◌∷◌, length, Some, refl, sym, ◌∙◌, ap, subst, arith, ◌⊎◌, inl, inr}
use Rattle.std.specs.Prelude.{slice_get}
use Rattle.std.proofs.lemmas.Bool.{eqb-true}
use Rattle.std.proofs.lemmas.Option.{slice_get_within}
use Rattle.type_model.specs.Types.{occurs}
use Rattle.type_model.proofs.Applying.{eqb_same}
use Rattle.type_nodes.specs.Nodes.{Node, Var, bound_level}
use Rattle.type_nodes.specs.Readings.{Types}
use Rattle.level_unify.specs.Unification.{Unified}
use Rattle.level_unify.proofs.Variants.{stands_occurs}
use Rattle.typing_conditions.specs.Locals.{IsFreeVar, IsOwn, stands_in_any, Within, Local, ClosesAll}
use Rattle.typing_conditions.proofs.Regions.{region, region_is, region_var}
use Rattle.typing_conditions.proofs.Steps.{Grows, old_or_new, same_node, stands_after, stands_before, root_before}
use Rattle.typing_conditions.proofs.Closing.{still_free}

-- a free variable of a scope before s
pub record IsEarly (nodes : List Node) (s v : ℕ) : Type 0 where
  pub level : ℕ
  pub scope : ℕ
  pub at : slice_get nodes v ≡ Some (Var level scope)
  pub free : level ≢ bound_level
  pub early : scope < s

-- it stands in what an early variable of before reads as, which is itself or stands in the roots
pub record ComesFromEarly (old : List Node) (I J : Types) (roots : List ℕ) (s u : ℕ) : Type 0 where
  pub source : ℕ
  pub was : IsEarly old s source
  pub stands : occurs u (J source) ≡ true
  pub within : (source ≡ u) ⊎ (stands_in_any I roots source ≡ true)

-- the same for all early variables, and a scope only falls
pub record Scoped (old new : List Node) (I J : Types) (roots : List ℕ) (s : ℕ) : Type 0 where
  pub sources : (u : ℕ) → IsEarly new s u → ComesFromEarly old I J roots s u
  pub falls : (m l o u l' o' : ℕ) → slice_get old m ≡ Some (Var l o) → l ≢ bound_level → slice_get new u ≡ Some (Var l' o') → occurs u (J m) ≡ true → o' ≤ o

same_scope : (nodes : List Node) (n l o l' o' : ℕ) → slice_get nodes n ≡ Some (Var l o) → slice_get nodes n ≡ Some (Var l' o') → o ≡ o'
same_scope nodes n l o l' o' e f = let g : Some (Var l o) ≡ Some (Var l' o') = sym e ∙ f in cc

-- steps one after another
pub scoped_then : (old mid new : List Node) (I J K : Types) (C D : List ℕ) (H H' : ℕ → List ℕ) (level s : ℕ) (before : IsOwn old I) (between : IsOwn mid J) (after : IsOwn new K) (one : Local old mid I J C H level) (two : Local mid new J K D H' level)
    (within : (k d : ℕ) → slice_get D k ≡ Some d → Within old C d × (d < length mid)) (more : (k u : ℕ) → k < level → stands_in_any K (H k) u ≡ true → stands_in_any K (H' k) u ≡ true) →
    Scoped old mid I J C s → Scoped mid new J K D s → Scoped old new I K C s
scoped_then old mid new I J K C D H H' level s before between after one two within more first second = record {
  sources = λ u early.
      let t = second.sources u early in
      let r = first.sources t.source t.was in
      record {
        source = r.source;
        was = r.was;
        stands = stands_after mid J K between (two.refines.loose K after.loose) r.source t.source u r.stands t.stands;
        within = elim r.within [
          | inr i ↦ inr i
          | inl same ↦ elim t.within [
            | inl same' ↦ inl (same ∙ same')
            | inr i ↦ inr (root_before old mid new I J K C D H H' level before between after one two within more r.source (record { level = r.was.level; scope = r.was.scope; at = r.was.at }) (subst (λ j. stands_in_any J D j ≡ true) (sym same) i))
          ]
        ];
      };
  falls = λ m l o u l' o' e f e' h.
      let (w, p, q) = stands_before mid J K between (two.refines.loose K after.loose) m u h in
      let v = one.refines.frees m w (record { level = l; scope = o; at = e; free = f }) p in
      let a = first.falls m l o w v.level v.scope e f v.at p in
      let b = second.falls w v.level v.scope u l' o' v.at v.free e' q in omega arith;
}

-- two nodes are made one
pub scoped_unified : (old new : List Node) (I J : Types) (a b level s : ℕ) → IsOwn old I → IsOwn new J → Unified old new a b → Local old new I J (a ∷ b ∷ []) (λ k. []) level → Scoped old new I J (a ∷ b ∷ []) s
scoped_unified old new I J a b level s before after u local = record {
  sources = λ v early.
      let (m, l, o, e, f, stands, is) = (u.scope_least v early.level early.scope early.at early.free).source in
      let here = stands_occurs new J v m after.loose (after.vars v early.level early.scope early.at) stands in
      record {
        source = m;
        was = record { level = l; scope = o; at = e; free = f; early = let p = early.early in omega (arith, is) };
        stands = here;
        within = at m l o e v here (region old I (a ∷ b ∷ []) m) refl;
      };
  falls = λ m l o v l' o' e f e' h.
      let g = local.refines.frees m v (record { level = l; scope = o; at = e; free = f }) h in
      (u.scope_least v l' o' e' (λ x. g.free (sym (same_node new v l' o' g.level g.scope e' g.at) ∙ x))).bound m l o e f
      (after.stands m v (let p = slice_get_within old m (Var l o) e in let q = u.len in omega arith) h);
}
  where
    at : (m l o : ℕ) → slice_get old m ≡ Some (Var l o) → (v : ℕ) → occurs v (J m) ≡ true → (t : Bool) → region old I (a ∷ b ∷ []) m ≡ t → (m ≡ v) ⊎ (stands_in_any I (a ∷ b ∷ []) m ≡ true)
    at m l o e v h true r = inr (region_var old I (a ∷ b ∷ []) before m (record { level = l; scope = o; at = e }) r)
    at m l o e v h false r =
        let reg = region_is old I (a ∷ b ∷ []) before.loose in
        let e' = local.outside (region old I (a ∷ b ∷ [])) reg m r ∙ e in
        inl (sym (eqb-true v m (ap (occurs v) (sym (after.vars m l o e')) ∙ h)))

-- new nodes, whose variables have late scopes
pub scoped_made : (old new : List Node) (I J : Types) (C : List ℕ) (s : ℕ) → IsOwn old I → IsOwn new J → Grows old new → ((u l o : ℕ) → length old ≤ u → slice_get new u ≡ Some (Var l o) → l ≢ bound_level → s ≤ o) → Scoped old new I J C s
scoped_made old new I J C s before after grows late = record {
  sources = λ u early. elim (old_or_new u (length old)) [
    | inl lt ↦ record {
      source = u;
      was = record { level = early.level; scope = early.scope; at = sym (grows.node u lt) ∙ early.at; free = early.free; early = early.early };
      stands = ap (occurs u) (after.vars u early.level early.scope early.at) ∙ eqb_same u;
      within = inl refl;
    }
    | inr le ↦ absurd (let p = late u early.level early.scope le early.at early.free in let q = early.early in omega arith)
  ];
  falls = λ m l o u l' o' e f e' h.
      let there : slice_get new m ≡ Some (Var l o) = grows.node m (slice_get_within old m (Var l o) e) ∙ e in
      let same = eqb-true u m (ap (occurs u) (sym (after.vars m l o there)) ∙ h) in
      let t = same_scope new m l' o' l o (ap (slice_get new) (sym same) ∙ e') there in omega arith;
}

-- closing changes no scope
pub scoped_closed : (old nodes new : List Node) (I J : Types) (C R : List ℕ) (level s : ℕ) → IsOwn nodes J → ClosesAll nodes new J R level → ((m u : ℕ) → IsFreeVar old m → occurs u (J m) ≡ true → IsFreeVar new u) → Scoped old nodes I J C s → Scoped old new I J C s
scoped_closed old nodes new I J C R level s own closes frees scoped = record {
  sources = λ u early. scoped.sources u (record { level = early.level; scope = early.scope; at = still_free nodes new J R level u early.level early.scope closes early.at early.free; free = early.free; early = early.early });
  falls = λ m l o u l' o' e f e' h.
      let g = frees m u (record { level = l; scope = o; at = e; free = f }) h in
      let same : l' ≡ g.level = same_node new u l' o' g.level g.scope e' g.at in
      scoped.falls m l o u l' o' e f (still_free nodes new J R level u l' o' closes e' (λ x. g.free (sym same ∙ x))) h;
}
