-- The steps of a row, over the record of what it carries.
use Rattle.std.proofs.Common.{◌≡◌, ◌≢◌, ℕ, zero, suc, ◌<◌, ◌≤◌, true, false, List, [], ◌∷◌, ◌++◌, length, get_or, Some, refl, sym, ◌∙◌, ap, subst, arith, inl, inr}
use Rattle.std.specs.Prelude.{slice_get, All}
use Rattle.std.proofs.lemmas.Bool.{eqb-true}
use Rattle.type_model.specs.Types.{occurs}
use Rattle.type_model.proofs.Applying.{or_cases}
use Rattle.typing_laws.proofs.Bools.{no_yes}
use Rattle.type_nodes.specs.Nodes.{Node, Var, Rigid, Link, Arrow, Tuple, Con, parts, bound_level}
use Rattle.type_nodes.specs.Readings.{Types}
use Rattle.type_nodes.specs.States.{State}
use Rattle.type_nodes.specs.Changes.{Makes}
use Rattle.type_nodes.proofs.Lists.{get-append_last, length-snoc}
use Rattle.type_nodes.proofs.Identity.{built_from}
use Rattle.level_unify.specs.Solutions.{Loose, FitsLoosely, HaveNoBound}
use Rattle.level_unify.specs.Unification.{Unified}
use Rattle.level_unify.specs.Instances.{Instantiated}
use Rattle.level_unify.proofs.Walking.{get_here}
use Rattle.typing_conditions.specs.Locals.{IsLow, IsOwn, Within, Local, IsResult}
use Rattle.typing_conditions.specs.Rows.{Row}
use Rattle.typing_conditions.proofs.Own.{built_has}
use Rattle.typing_conditions.proofs.Regions.{region, region_is, region_var}
use Rattle.typing_conditions.proofs.Steps.{local_then, local_unified, old_or_new}
use Rattle.typing_conditions.proofs.Later.{VarOf, var_of, result_after}
use Rattle.typing_conditions.proofs.Instances.{local_instance, instance_within, local_node, local_more, open_nodes, result_widens, new_within}

module _ {start now : List Node} {I J : Types} {C : List ℕ} {H : ℕ → List ℕ} {level : ℕ} {rs : List ℕ} (row : Row start now I J C H level rs) where
  -- a further step, whose roots are roots or open nodes
  pub row_step : (new : List Node) (K : Types) (D : List ℕ) → IsOwn new K → ((k d : ℕ) → slice_get D k ≡ Some d → Within start C d × (d < length now)) → Local now new J K D H level → Row start new I K C H level rs
  row_step new K D own within step = record {
    before = row.before;
    own = own;
    context = row.context;
    local = local_then start now new I J K C D H H level row.before row.own own row.local step within (λ k u lt h. h);
    open_nodes = λ k r e. result_after start now new J K C level r row.own own step.refines (row.open_nodes k r e);
  }

  -- one open node more
  pub row_more : (r : ℕ) → IsResult start now J C level r → Row start now I J C H level (r ∷ rs)
  row_more r res = record { before = row.before; own = row.own; context = row.context; local = row.local; open_nodes = each }
    where
      each : (k q : ℕ) → slice_get (r ∷ rs) k ≡ Some q → IsResult start now J C level q
      each zero q e = let s : r ≡ q = cc in subst (IsResult start now J C level) s res
      each (suc k) q e = row.open_nodes k q e

  open_within : (k r : ℕ) → slice_get rs k ≡ Some r → Within start C r × (r < length now)
  open_within k r e = let o = row.open_nodes k r e in (o.within, o.inside)

  -- two open nodes may be unified
  pub row_open : (j k a b : ℕ) → slice_get rs j ≡ Some a → slice_get rs k ≡ Some b → HaveNoBound now a b
  row_open j k a b e f = open_nodes now J a b row.own
      (λ v o. let g = (row.open_nodes j a e).free v o in record { level = g.level; scope = g.scope; at = g.at; free = g.free })
      (λ v o. let g = (row.open_nodes k b f).free v o in record { level = g.level; scope = g.scope; at = g.at; free = g.free })

  -- two open nodes are made one
  pub row_unify : (new : List Node) (K : Types) (j k a b : ℕ) → slice_get rs j ≡ Some a → slice_get rs k ≡ Some b → IsOwn new K → (HaveNoBound now a b → Unified now new a b) → ((V : Types) → Loose new V → Loose now V) → Row start new I K C H level rs
  row_unify new K j k a b e f own one tight = row_step new K (a ∷ b ∷ []) own both
      (local_more now new J K (a ∷ b ∷ []) (a ∷ b ∷ []) (λ k. []) H level level own (omega arith) (λ i c g. (i, g)) (λ i u lt h. absurd (no_yes h))
      (local_unified now new J K a b level row.own own (one (row_open j k a b e f)) (row_open j k a b e f) tight))
    where
      both : (i d : ℕ) → slice_get (a ∷ b ∷ []) i ≡ Some d → Within start C d × (d < length now)
      both zero d g = let s : a ≡ d = cc in open_within j d (e ∙ ap (λ x. Some x) s)
      both (suc zero) d g = let s : b ≡ d = cc in open_within k d (f ∙ ap (λ x. Some x) s)
      both (suc (suc i)) d g = absurd (cc)

  -- a part, whose roots are those of the row or open nodes
  pub row_part : (new : List Node) (K : Types) (D : List ℕ) (r : ℕ) → IsOwn new K → ((k d : ℕ) → slice_get D k ≡ Some d → Within start C d × (d < length now)) → Local now new J K D H level × IsResult now new K D level r → Row start new I K C H level (r ∷ rs)
  row_part new K D r own within part =
      let next = row_step new K D own within part.0 in
      record {
        before = next.before;
        own = next.own;
        context = next.context;
        local = next.local;
        open_nodes = each next;
      }
    where
      each : Row start new I K C H level rs → (k q : ℕ) → slice_get (r ∷ rs) k ≡ Some q → IsResult start new K C level q
      each next zero q e = let s : r ≡ q = cc in subst (IsResult start new K C level) s (result_widens start now new I J K C D H level level r row.local (λ k d f. (within k d f).0) part.1)
      each next (suc k) q e = next.open_nodes k q e

  -- an instance of a root, or of a node that was made: one whose free variables are of at most the level
  pub row_instance : (new : List Node) (K : Types) (r m : ℕ) → Within start C r × (r < length now) → ((v l o : ℕ) → occurs v (J r) ≡ true → slice_get now v ≡ Some (Var l o) → l ≢ bound_level → l ≤ level) →
      IsOwn new K → Instantiated now new r level m → Row start new I K C H level (m ∷ rs)
  row_instance new K r m here low_root own inst = row_part new K (r ∷ []) m own one (
    local_more now new J K (r ∷ []) (r ∷ []) (λ k. []) H level level own (omega arith) (λ i c g. (i, g)) (λ i u lt h. absurd (no_yes h)) (local_instance now new J K r level m level row.own own (omega arith) inst),
    record { inside = inst.inside; within = instance_within now new r level m inst; free = λ v o. low v o (var_of new v (own.only m v inst.inside o)) },
  )
    where
      one : (i d : ℕ) → slice_get (r ∷ []) i ≡ Some d → Within start C d × (d < length now)
      one zero d g = let s : r ≡ d = cc in subst (λ j. Within start C j × (j < length now)) s here
      one (suc i) d g = absurd (cc)

      -- an old variable of the copy stands in the root
      old_var : (v l o : ℕ) → occurs v (K m) ≡ true → v < length now → slice_get new v ≡ Some (Var l o) → occurs v (J r) ≡ true
      old_var v l o h lt at =
          let reg = region_is now J (r ∷ []) row.own.loose in
          let done = inst.within (region now J (r ∷ [])) reg.closed (reg.has zero r refl) reg.made in
          let stands = region_var now J (r ∷ []) row.own v (record { level = l; scope = o; at = sym (inst.extends.node v lt) ∙ at }) ((own.stands m v inst.inside h).each (region now J (r ∷ [])) done.0 done.1) in
          elim (or_cases (occurs v (J r)) false stands) [ inl i ↦ i | inr i ↦ absurd (no_yes i) ]

      unbound : (v l o : ℕ) → occurs v (K m) ≡ true → slice_get new v ≡ Some (Var l o) → l ≢ bound_level
      unbound v l o h at = inst.unbound.free v l o ((own.stands m v inst.inside h).each inst.unbound.set inst.unbound.closed inst.unbound.left) at

      low : (v : ℕ) → occurs v (K m) ≡ true → VarOf new v → IsLow new level v
      low v h var = record {
        level = var.level;
        scope = var.scope;
        at = var.at;
        free = unbound v var.level var.scope h var.at;
        low = elim (old_or_new v (length now)) [
          | inr le ↦ (let f = (inst.vars v var.level var.scope le var.at).0 in omega arith)
          | inl lt ↦ low_root v var.level var.scope (old_var v var.level var.scope h lt var.at) (sym (inst.extends.node v lt) ∙ var.at) (unbound v var.level var.scope h var.at)
        ];
      }

-- a variable of a node's type that isn't a variable itself stands in a part
in_part : (v : ℕ) (V : Types) (n : ℕ) (c : Node) (X : Type 0) → ((l o : ℕ) → c ≡ Var l o → ⊥) → FitsLoosely V n c → All (λ m. occurs v (V m) ≡ true → X) (parts c) → occurs v (V n) ≡ true → X
in_part v V n c X isnt fits h o = built_has v V n c X (λ l k e s. absurd (isnt l k e)) h (ap (occurs v) (sym (is_built c isnt fits)) ∙ o)
  where
    is_built : (d : Node) → ((l k : ℕ) → d ≡ Var l k → ⊥) → FitsLoosely V n d → V n ≡ built_from V n (Some d)
    is_built (Var l k) isnt' f = absurd (isnt' l k refl)
    is_built Rigid isnt' f = f
    is_built (Link m) isnt' f = f
    is_built (Arrow a b) isnt' f = f
    is_built (Tuple ms) isnt' f = f
    is_built (Con p name ms) isnt' f = f

-- a new node over open nodes, and a new variable
module _ {start : List Node} {now new : State} {I J : Types} {C : List ℕ} {H : ℕ → List ℕ} {level : ℕ} {rs : List ℕ} (row : Row start now.nodes I J C H level rs) (K : Types) (own : IsOwn new.nodes K) (n : ℕ) (c : Node) (made : Makes now new n c) where
  there : slice_get new.nodes n ≡ Some c
  there = ap (λ ns. slice_get ns n) made.added.nodes ∙ ap (slice_get (now.nodes ++ c ∷ [])) made.added.number ∙ get-append_last now.nodes c

  n_inside : n < length new.nodes
  n_inside = let a = made.added.number in let b = ap length made.added.nodes ∙ length-snoc now.nodes c in omega (arith, a, b)

  n_within : Within start C n
  n_within = new_within start C n (let a = made.added.number in let b = row.local.refines.longer in omega (arith, a, b))

  -- a new variable of the level is open
  pub row_var : (scope : ℕ) → c ≡ Var level scope → level ≢ bound_level → Row start new.nodes I K C H level (n ∷ rs)
  row_var scope is free =
      let next = row_step row new.nodes K (parts c) own parts_none (local_node now new n c J K H level row.own own made (λ k l o lt e le. absurd (let f : Var l o ≡ Var level scope = sym e ∙ is in let s : l ≡ level = cc in omega arith))) in
      row_more next n (record {
        inside = n_inside;
        within = n_within;
        free = λ v o.
            let at = there ∙ ap (λ d. Some d) is in
            let s = eqb-true v n (ap (occurs v) (sym (own.vars n level scope at)) ∙ o) in
            record { level = level; scope = scope; at = ap (slice_get new.nodes) s ∙ at; free = free; low = omega arith };
      })
    where
      parts_none : (k d : ℕ) → slice_get (parts c) k ≡ Some d → Within start C d × (d < length now.nodes)
      parts_none k d e = absurd (let f : slice_get [] k ≡ Some d = ap (λ x. slice_get (parts x) k) (sym is) ∙ e in cc)

  -- a new node over open nodes is open
  pub row_node : ((l o : ℕ) → c ≡ Var l o → ⊥) → ((k d : ℕ) → slice_get (parts c) k ≡ Some d → (j : ℕ) × (slice_get rs j ≡ Some d)) → Row start new.nodes I K C H level (n ∷ rs)
  row_node isnt among =
      let next = row_step row new.nodes K (parts c) own (λ k d e. let (j, f) = among k d e in open_within row j d f) (local_node now new n c J K H level row.own own made (λ k l o lt e le. absurd (isnt l o e))) in
      row_more next n (record {
        inside = n_inside;
        within = n_within;
        free = λ v o. in_part v K n c (IsLow new.nodes level v) isnt (own.loose.each n c there)
            (λ k d lt h. let (j, f) = among k (get_or (parts c) k d) (get_here (parts c) k d lt) in (next.open_nodes j (get_or (parts c) k d) f).free v h) o;
      })
