-- The use of a name: which roots stand for a scheme, that an instance of the root is a use of the scheme at each reading, and that each use comes from types that fit.
use Rattle.std.proofs.Common.{◌≡◌, ℕ, ◌<◌, Bool, true, false, not, nat_le, List, length, Some, None, refl, sym, ◌∙◌, ap, subst, arith, inl, inr, if◌then◌else◌}
use Rattle.std.specs.Prelude.{slice_get}
use Rattle.std.proofs.lemmas.Bool.{eqb-true, le-leb}
use Rattle.type_model.specs.Types.{Path, Typ, Typs, occurs}
use Rattle.type_model.specs.Types.{Typ as type, Typs as types}
use Rattle.type_model.specs.Substitutions.{Subst, apply}
use Rattle.type_model.specs.Schemes.{Scheme, HasInstance, free_in_scheme}
use Rattle.type_model.specs.Limits.{in_scope, no_scope, IsUnder, AreUnder}
use Rattle.type_model.specs.Origins.{made_before}
use Rattle.type_model.proofs.Applying.{or_left, occurs_from, apply_agree, apply-apply, apply_leaves}
use Rattle.type_model.proofs.Generalising.{choose}
use Rattle.signature_model.specs.Changes.{change, change_all, put}
use Rattle.signature_model.specs.Matching.{is_unknown, IsKnown, AreKnown, filling}
use Rattle.typing_model.specs.Demands.{IsUse}
use Rattle.type_nodes.specs.Nodes.{Node, Var, bound_level}
use Rattle.type_nodes.specs.Readings.{Types, Fits, IsReading}
use Rattle.level_unify.specs.Walks.{StandsIn}
use Rattle.level_unify.specs.Solutions.{Loose}
use Rattle.level_unify.specs.Instances.{is_bound, IsVariant, SameTypes, Instantiated}
use Rattle.level_unify.proofs.Unified.{fits_loosely, fits_under, under_fits}
use Rattle.level_unify.proofs.Variants.{bound_cell, bound_there, free_there, loose_apply, stands_occurs}
use Rattle.typing_laws.proofs.Bools.{no_yes, and_cases, and_both}
use Rattle.typing_conditions.specs.Locals.{IsFreeVar, IsOwn}
use Rattle.typing_conditions.specs.Assumptions.{FreeAlike, SchemeFits, SchemeReads}
use Rattle.typing_conditions.proofs.Steps.{stands_after}
use Rattle.typing_conditions.proofs.Later.{var_of}

-- filling in unknown types leaves a type without any
put_known : (f : Path → Typ) (o : Path) (ts : Typs) (b : Bool) → is_unknown o ≡ b → b ≡ false → put o (if b then Some (f o) else None) ts ≡ type.Con o ts
put_known f o ts true e h = absurd (no_yes (sym h))
put_known f o ts false e h = refl

mutual
  -- a type without unknown ones stays as it is
  pub filling_known : (f : Path → Typ) (t : Typ) → IsKnown t → change (filling f) t ≡ t
  filling_known f (type.Var v) h = refl
  filling_known f (type.Arrow a b) h = let p = filling_known f a h.0 in let q = filling_known f b h.1 in (λ i. type.Arrow (p i) (q i))
  filling_known f (type.Tuple ts) h = ap type.Tuple (filling_all_known f ts h)
  filling_known f (type.Con o ts) h = put_known f o (change_all (filling f) ts) (is_unknown o) refl h.0 ∙ ap (type.Con o) (filling_all_known f ts h.1)

  filling_all_known : (f : Path → Typ) (ts : Typs) → AreKnown ts → change_all (filling f) ts ≡ ts
  filling_all_known f types.Nil h = refl
  filling_all_known f (types.Cons t ts) h = let p = filling_known f t h.0 in let q = filling_all_known f ts h.1 in (λ i. types.Cons (p i) (q i))

-- an instance of a scheme without unknown types is a use of it
pub instance_is_use : (sc : Scheme) (t : Typ) → IsKnown sc.body → HasInstance sc t → IsUse sc t
instance_is_use sc t known (s, fixes, e) = record { fill = λ o. type.Var 0; instance = (s, fixes, e ∙ ap (apply s) (sym (filling_known (λ o. type.Var 0) sc.body known))) }

-- a bound variable that occurs in a reading of a node stands in it
pub bound_stands : (nodes : List Node) (I V : Types) → IsOwn nodes I → IsReading nodes V → (r b : ℕ) → r < length nodes → is_bound nodes b ≡ true → occurs b (V r) ≡ true → StandsIn nodes b r
bound_stands nodes I V own reads r b lt bound o =
    let (u, p, q) = occurs_from V b (I r) (ap (occurs b) (sym (own.comes V (fits_loosely nodes V reads.fits) r)) ∙ o) in
    let var = var_of nodes u (own.only r u lt p) in
    let (scope, e) = bound_cell nodes b bound in
    elim var.kind [
      | inr free ↦ absurd (no_yes (sym (reads.apart u var.level var.scope b scope var.at free e) ∙ q))
      | inl is ↦
          let at : slice_get nodes u ≡ Some (Var bound_level var.scope) = var.at ∙ ap (λ k. Some (Var k var.scope)) is in
          let s : b ≡ u = eqb-true b u (ap (occurs b) (sym (reads.own u var.scope at)) ∙ q) in
          subst (λ k. StandsIn nodes k r) (sym s) (own.stands r u lt p)
    ]

-- a variable is free in a scheme where it stands in its body and isn't bound by it
free_if_kept : (w : ℕ) (sc : Scheme) → occurs w sc.body ≡ true → sc.bound w ≡ false → free_in_scheme w sc ≡ true
free_if_kept w sc o b = and_both (occurs w sc.body) (not (sc.bound w)) o (ap not b)

-- A scheme whose body is the root's type, without unknown types, and which binds no variable that a free variable in the root reads as.
module _ (nodes : List Node) (I V : Types) (r : ℕ) (sc : Scheme) (own : IsOwn nodes I) (loose : Loose nodes V) (inside : r < length nodes) (known : IsKnown (V r)) (body : sc.body ≡ V r)
    (kept : (u w : ℕ) → IsFreeVar nodes u → StandsIn nodes u r → occurs w (V u) ≡ true → sc.bound w ≡ false) where
  free_alike : FreeAlike nodes V r sc
  free_alike = record {
    inside = inside;
    each = λ u w free stands o.
        let here : occurs u (I r) ≡ true = stands_occurs nodes I u r own.loose (own.vars u free.level free.scope free.at) stands in
        free_if_kept w sc (ap (occurs w) body ∙ stands_after nodes I V own loose r u w here o) (kept u w free stands o);
  }

  -- the types of a use for the bound variables, and the others as they are
  on : Subst → Subst
  on s u = choose (is_bound nodes u) (apply s (V u)) (V u)

  by_others : Subst → Types
  by_others s n = apply (on s) (I n)

  variant : (s : Subst) → IsVariant nodes V (by_others s)
  unfolding on by_others
  variant s = record {
    loose = loose_apply nodes (on s) I own.loose;
    free = λ n l o e free. ap (apply (on s)) (own.vars n l o e) ∙ ap (λ b. choose b (apply s (V n)) (V n)) (free_there nodes n l o e free);
  }

  -- free variables keep their types
  at_var : (s : Subst) → ((v : ℕ) → sc.bound v ≡ false → s v ≡ type.Var v) → (u : ℕ) → occurs u (I r) ≡ true → (b : Bool) → is_bound nodes u ≡ b → on s u ≡ apply s (V u)
  unfolding on
  at_var s fixes u o true h = ap (λ b. choose b (apply s (V u)) (V u)) h
  at_var s fixes u o false h =
      let var = own.only r u inside o in
      let free : IsFreeVar nodes u = record { level = var.level; scope = var.scope; at = var.at; free = λ e. no_yes (sym h ∙ bound_there nodes u (Var var.level var.scope) var.at e) } in
      ap (λ b. choose b (apply s (V u)) (V u)) h ∙ sym (apply_leaves s (V u) (λ w p. fixes w (kept u w free (own.stands r u inside o) p)))

  -- so the root stands for it, under types that fit
  pub type_fits : SchemeFits nodes V r sc
  unfolding by_others
  type_fits = record {
    free = free_alike;
    takes = λ t h.
        let (s, fixes, e) = h.instance in
        record {
          types = by_others s;
          variant = variant s;
          is = e ∙ ap (apply s) (filling_known h.fill sc.body (subst IsKnown (sym body) known) ∙ body ∙ own.comes V loose r) ∙ apply-apply s V (I r) ∙ sym (apply_agree (on s) (λ u. apply s (V u)) (I r) (λ u o. at_var s fixes u o (is_bound nodes u) refl));
        };
  }

  -- The same at a reading, where it binds the bound variables in the root.
  module _ (reads : IsReading nodes V) (binds : (b : ℕ) → is_bound nodes b ≡ true → StandsIn nodes b r → sc.bound b ≡ true) where
    unbound : (s : Subst) → ((v : ℕ) → is_bound nodes v ≡ false → s v ≡ type.Var v) → (v : ℕ) → occurs v (V r) ≡ true → sc.bound v ≡ false → (t : Bool) → is_bound nodes v ≡ t → s v ≡ type.Var v
    unbound s fixes v o f false h = fixes v h
    unbound s fixes v o f true h = absurd (no_yes (sym f ∙ binds v h (bound_stands nodes I V own reads r v inside h o)))

    agree : (s : Subst) → ((v : ℕ) → is_bound nodes v ≡ false → s v ≡ type.Var v) → (v : ℕ) → occurs v (V r) ≡ true → (b : Bool) → sc.bound v ≡ b → s v ≡ choose (sc.bound v) (s v) (type.Var v)
    agree s fixes v o true h = sym (ap (λ b. choose b (s v) (type.Var v)) h)
    agree s fixes v o false h = unbound s fixes v o h (is_bound nodes v) refl ∙ sym (ap (λ b. choose b (s v) (type.Var v)) h)

    none_left : (b : ℕ) → is_bound nodes b ≡ true → (t : Bool) → free_in_scheme b sc ≡ t → free_in_scheme b sc ≡ false
    none_left b bound false e = e
    none_left b bound true e =
        let p = and_cases (occurs b sc.body) (not (sc.bound b)) e in
        absurd (no_yes (sym (ap not (binds b bound (bound_stands nodes I V own reads r b inside bound (ap (occurs b) (sym body) ∙ p.0)))) ∙ p.1))

    -- and at each reading
    pub type_reads : SchemeReads nodes V r sc
    type_reads = record {
      free = free_alike;
      only = λ w h. ap (occurs w) (sym body) ∙ (and_cases (occurs w sc.body) (not (sc.bound w)) h).0;
      none = λ b bound. none_left b bound (free_in_scheme b sc) refl;
      gives = λ s fixes.
          let s' : Subst = λ v. choose (sc.bound v) (s v) (type.Var v) in
          instance_is_use sc (apply s (V r)) (subst IsKnown (sym body) known)
          (s', (λ v f. ap (λ b. choose b (s v) (type.Var v)) f), apply_agree s s' (V r) (λ v o. agree s fixes v o (sc.bound v) refl) ∙ ap (apply s') (sym body));
    }

-- soundness: each reading gives the copy of a root a use of the scheme
pub use_sound : (old new : List Node) (V : Types) (r level m : ℕ) (sc : Scheme) → Instantiated old new r level m → IsReading new V → SchemeReads old V r sc → IsUse sc (V m)
use_sound old new V r level m sc inst reads scheme = let (before, (s, fixes, e), _) = inst.reads V reads in subst (IsUse sc) (sym e) (scheme.gives s fixes)

-- without levels, a limit that limits nothing holds of each type
in_any_scope : (o : Path) → in_scope no_scope o ≡ true
in_any_scope o = or_left (nat_le no_scope no_scope) (made_before no_scope o) (le-leb no_scope no_scope (omega arith))

mutual
  -- each type keeps to them
  pub under_any : (level : ℕ) (t : Typ) → IsUnder (λ v. 0) level no_scope t
  under_any level (type.Var v) = omega arith
  under_any level (type.Arrow a b) = (under_any level a, under_any level b)
  under_any level (type.Tuple ts) = all_under_any level ts
  under_any level (type.Con o ts) = (in_any_scope o, all_under_any level ts)

  all_under_any : (level : ℕ) (ts : Typs) → AreUnder (λ v. 0) level no_scope ts
  all_under_any level types.Nil = tt
  all_under_any level (types.Cons t ts) = (under_any level t, all_under_any level ts)

-- completeness: each use of the scheme comes from types that fit, which are as before at the nodes of before
pub use_complete : (old new : List Node) (V : Types) (r level m : ℕ) (sc : Scheme) (t : Typ) → Instantiated old new r level m → Fits old V → SchemeFits old V r sc → IsUse sc t → (W : Types) × Fits new W × SameTypes old V W × (W m ≡ t)
use_complete old new V r level m sc t inst fits scheme h =
    let u = scheme.takes t h in
    let (W, fits', same, is) = inst.fitted (λ v. 0) V u.types (fits_under old V fits) u.variant (λ b bound stands. under_any level (u.types b)) in
    (W, under_fits (λ v. 0) new W fits', same, is ∙ sym u.is)
