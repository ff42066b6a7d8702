-- The schemes of an environment stay those of the definitions: under types that fit later on, and at each reading both ways.
use Rattle.std.proofs.Common.{◌≡◌, ℕ, ◌<◌, Bool, true, false, List, length, Some, refl, sym, ◌∙◌, ap, subst, arith, inl, inr}
use Rattle.std.specs.Prelude.{slice_get}
use Rattle.std.proofs.lemmas.Option.{slice_get_within}
use Rattle.type_model.specs.Types.{occurs}
use Rattle.type_model.specs.Types.{Typ as type}
use Rattle.type_model.specs.Substitutions.{Subst, apply}
use Rattle.type_model.specs.Schemes.{Scheme, free_in_scheme}
use Rattle.type_model.proofs.Applying.{apply_agree, apply-apply}
use Rattle.type_model.proofs.Generalising.{choose}
use Rattle.typing_laws.proofs.Bools.{no_yes}
use Rattle.typing_model.specs.Demands.{IsUse}
use Rattle.type_nodes.specs.Nodes.{Node, Var, bound_level}
use Rattle.type_nodes.specs.Readings.{Types, IsReading}
use Rattle.level_unify.specs.Walks.{StandsIn}
use Rattle.level_unify.specs.Solutions.{Loose}
use Rattle.level_unify.specs.Instances.{is_bound, IsVariant, SameTypes}
use Rattle.level_unify.proofs.Unified.{fits_loosely}
use Rattle.level_unify.proofs.Variants.{bound_cell, bound_there, free_there, stands_occurs, loose_apply}
use Rattle.typing_conditions.specs.Locals.{IsVar, IsFreeVar, IsOwn, Refines}
use Rattle.typing_conditions.specs.Assumptions.{FreeAlike, SchemeFits, SchemeReads}
use Rattle.typing_conditions.proofs.Uses.{bound_stands}
use Rattle.typing_conditions.proofs.Steps.{same_node, stands_after, stands_before}
use Rattle.typing_conditions.proofs.Later.{var_of, bound_itself}

module _ (old new : List Node) (I J : Types) (before : IsOwn old I) (after : IsOwn new J) (step : Refines old new J) where
  inside_after : (r : ℕ) → r < length old → r < length new
  inside_after r lt = let p = step.longer in omega arith

  -- the free variable of before in which one stands now
  was_free : (r u : ℕ) → r < length old → IsFreeVar new u → StandsIn new u r → (m : ℕ) × IsFreeVar old m × StandsIn old m r × (occurs u (J m) ≡ true)
  was_free r u lt free stands =
      let o : occurs u (J r) ≡ true = stands_occurs new J u r after.loose (after.vars u free.level free.scope free.at) stands in
      let (m, p, q) = stands_before old I J before (step.loose J after.loose) r u o in
      let var = var_of old m (before.only r m lt p) in
      elim var.kind [
        | inr f ↦ (m, record { level = var.level; scope = var.scope; at = var.at; free = f }, before.stands r m lt p, q)
        | inl b ↦ absurd (
            let at : slice_get old m ≡ Some (Var bound_level var.scope) = var.at ∙ ap (λ k. Some (Var k var.scope)) b in
            let s = bound_itself old new J after step m u var.scope at q in
            free.free (same_node new u free.level free.scope bound_level var.scope free.at (ap (slice_get new) s ∙ step.bounds m var.scope at)))
      ]

  -- what stands in what a node reads as stands in the node's type
  brings : (V : Types) → Loose new V → (u m w : ℕ) → occurs u (J m) ≡ true → occurs w (V u) ≡ true → occurs w (V m) ≡ true
  brings V loose u m w p q = stands_after new J V after loose m u w p q

  -- free variables in a root have free variables of the scheme, later on too
  free_after : (V W : Types) → SameTypes old V W → Loose new W → (r : ℕ) (sc : Scheme) → FreeAlike old V r sc → FreeAlike new W r sc
  free_after V W same loose r sc frees = record {
    inside = inside_after r frees.inside;
    each = λ u w free stands o.
        let (m, f, s, p) = was_free r u frees.inside free stands in
        frees.each m w f s (ap (occurs w) (sym (same m (slice_get_within old m (Var f.level f.scope) f.at))) ∙ brings W loose u m w p o);
  }

  -- other types for the bound variables, later on
  on : (U W : Types) → Subst
  on U W u = choose (is_bound new u) (U u) (W u)

  later : (U W : Types) → Types
  later U W n = apply (on U W) (J n)

  on_bound : (U W : Types) (b scope : ℕ) → slice_get new b ≡ Some (Var bound_level scope) → on U W b ≡ U b
  unfolding on
  on_bound U W b scope e = ap (λ t. choose t (U b) (W b)) (bound_there new b (Var bound_level scope) e refl)

  on_free : (U W : Types) (u : ℕ) → IsFreeVar new u → on U W u ≡ W u
  unfolding on
  on_free U W u f = ap (λ t. choose t (U u) (W u)) (free_there new u f.level f.scope f.at f.free)

  -- what a variable of before reads as has then the type that it had
  at_old : (V W U : Types) → SameTypes old V W → Loose new W → IsVariant old V U → (m : ℕ) → IsVar old m → apply (on U W) (J m) ≡ U m
  at_old V W U same loose variant m var = elim (var_of old m var).kind [
    | inl b ↦
        let at : slice_get old m ≡ Some (Var bound_level var.scope) = (var_of old m var).at ∙ ap (λ k. Some (Var k (var_of old m var).scope)) b ∙ ap (λ o. Some (Var bound_level o)) same_scope in
        let e = step.bounds m var.scope at in
        ap (apply (on U W)) (after.vars m bound_level var.scope e) ∙ on_bound U W m var.scope e
    | inr f ↦
        let free : IsFreeVar old m = record { level = (var_of old m var).level; scope = (var_of old m var).scope; at = (var_of old m var).at; free = f } in
        apply_agree (on U W) W (J m) (λ u o. on_free U W u (step.frees m u free o)) ∙ sym (after.comes W loose m) ∙ same m (slice_get_within old m (Var free.level free.scope) free.at) ∙ sym (variant.free m free.level free.scope free.at free.free)
  ]
    where
      same_scope : (var_of old m var).scope ≡ var.scope
      same_scope = let a : Some (Var (var_of old m var).level (var_of old m var).scope) ≡ Some (Var var.level var.scope) = sym (var_of old m var).at ∙ var.at in cc

  -- for types that fit later on: those of before at the nodes of before
  pub fits_after : (V W : Types) → SameTypes old V W → Loose new W → (r : ℕ) (sc : Scheme) → SchemeFits old V r sc → SchemeFits new W r sc
  unfolding later
  fits_after V W same loose r sc fits = record {
    free = free_after V W same loose r sc fits.free;
    takes = λ t h.
        let u = fits.takes t h in
        record {
          types = later u.types W;
          variant = record {
            loose = loose_apply new (on u.types W) J after.loose;
            free = λ n l o e free. ap (apply (on u.types W)) (after.vars n l o e) ∙ on_free u.types W n (record { level = l; scope = o; at = e; free = free });
          };
          is = u.is ∙ before.comes u.types u.variant.loose r ∙ sym (apply_agree (λ m. apply (on u.types W) (J m)) u.types (I r) (λ m o. at_old V W u.types same loose u.variant m (before.only r m fits.free.inside o)))
              ∙ sym (apply-apply (on u.types W) J (I r)) ∙ ap (apply (on u.types W)) (sym (before.comes J (step.loose J after.loose) r));
        };
  }

  -- a bound variable that stands in an old node later on was bound before, and stood there
  was_bound : (r b : ℕ) → r < length old → is_bound new b ≡ true → StandsIn new b r → is_bound old b ≡ true
  was_bound r b lt h stands =
      let (scope, e) = bound_cell new b h in
      let o : occurs b (J r) ≡ true = stands_occurs new J b r after.loose (after.vars b bound_level scope e) stands in
      let (m, p, q) = stands_before old I J before (step.loose J after.loose) r b o in
      let var = var_of old m (before.only r m lt p) in
      elim var.kind [
        | inr f ↦ absurd (let g = step.frees m b (record { level = var.level; scope = var.scope; at = var.at; free = f }) q in g.free (same_node new b g.level g.scope bound_level scope g.at e))
        | inl i ↦
            let at : slice_get old m ≡ Some (Var bound_level var.scope) = var.at ∙ ap (λ k. Some (Var k var.scope)) i in
            let s = bound_itself old new J after step m b var.scope at q in
            bound_there old b (Var var.level var.scope) (ap (slice_get old) s ∙ var.at) i
      ]

  -- at each reading
  pub reads_after : (V : Types) → IsReading new V → (r : ℕ) (sc : Scheme) → SchemeReads old V r sc → SchemeReads new V r sc
  reads_after V reading r sc reads = record {
    free = free_after V V (λ n lt. refl) loose r sc reads.free;
    only = reads.only;
    none = λ b bound. none_left b bound (free_in_scheme b sc) refl;
    gives = λ s fixes. subst (IsUse sc) (sym (apply_agree s (λ v. choose (is_bound old v) (s v) (type.Var v)) (V r) (λ v o. by s fixes v o (is_bound old v) refl))) (reads.gives (λ v. choose (is_bound old v) (s v) (type.Var v)) (λ v h. ap (λ t. choose t (s v) (type.Var v)) h));
  }
    where
      loose : Loose new V
      loose = fits_loosely new V reading.fits

      none_left : (b : ℕ) → is_bound new b ≡ true → (t : Bool) → free_in_scheme b sc ≡ t → free_in_scheme b sc ≡ false
      none_left b bound false e = e
      none_left b bound true e =
          let stands = bound_stands new J V after reading r b (inside_after r reads.free.inside) bound (reads.only b e) in
          absurd (no_yes (sym (reads.none b (was_bound r b reads.free.inside bound stands)) ∙ e))

      new_bound : (s : Subst) → ((v : ℕ) → is_bound new v ≡ false → s v ≡ type.Var v) → (v : ℕ) → occurs v (V r) ≡ true → is_bound old v ≡ false → (t : Bool) → is_bound new v ≡ t → s v ≡ type.Var v
      new_bound s fixes v o h false e = fixes v e
      new_bound s fixes v o h true e = absurd (no_yes (sym h ∙ was_bound r v reads.free.inside e (bound_stands new J V after reading r v (inside_after r reads.free.inside) e o)))

      by : (s : Subst) → ((v : ℕ) → is_bound new v ≡ false → s v ≡ type.Var v) → (v : ℕ) → occurs v (V r) ≡ true → (t : Bool) → is_bound old v ≡ t → s v ≡ choose (is_bound old v) (s v) (type.Var v)
      by s fixes v o true h = sym (ap (λ t. choose t (s v) (type.Var v)) h)
      by s fixes v o false h = new_bound s fixes v o h (is_bound new v) refl ∙ sym (ap (λ t. choose t (s v) (type.Var v)) h)
