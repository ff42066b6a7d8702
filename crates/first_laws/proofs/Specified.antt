-- A root that stands for a type of a declaration stands for the scheme of that type, all of whose variables are the scheme's own.
use Rattle.std.proofs.Common.{◌≡◌, ◌∙◌, ℕ, zero, suc, ◌<◌, Bool, true, false, ◌&&◌, List, length, Some, refl, sym, ap, subst, arith, inl, inr, if◌then◌else◌}
use Rattle.std.specs.Prelude.{slice_get}
use Rattle.std.proofs.lemmas.Bool.{eqb-true}
use Rattle.std.proofs.lemmas.Option.{slice_get_within}
use Rattle.type_model.specs.Types.{Typ, Typs, occurs, occurs_any}
use Rattle.type_model.specs.Types.{Typ as type, Typs as types}
use Rattle.type_model.specs.Substitutions.{Subst, apply, apply_all, after}
use Rattle.type_model.specs.Schemes.{Scheme, free_in_scheme}
use Rattle.type_model.proofs.Applying.{or_cases, apply_agree, apply-apply, apply_Var, eqb_same}
use Rattle.type_model.proofs.Generalising.{choose}
use Rattle.signature_model.specs.Matching.{IsKnown, AreKnown}
use Rattle.typing_model.specs.Demands.{IsUse}
use Rattle.typing_model.specs.Modules.{all_bound}
use Rattle.typing_laws.proofs.Bools.{no_yes, and_cases, and_both}
use Rattle.type_nodes.specs.Nodes.{Node, Var, bound_level}
use Rattle.type_nodes.specs.Readings.{Types, IsReading}
use Rattle.level_unify.specs.Walks.{StandsIn}
use Rattle.level_unify.specs.Solutions.{Loose}
use Rattle.level_unify.specs.Instances.{is_bound, IsVariant}
use Rattle.level_unify.proofs.Unified.{fits_loosely}
use Rattle.level_unify.proofs.Variants.{bound_there, free_there, loose_apply, stands_occurs}
use Rattle.typing_conditions.specs.Locals.{IsFreeVar, IsOwn}
use Rattle.typing_conditions.specs.Assumptions.{FreeAlike, SchemeFits, SchemeReads}
use Rattle.typing_conditions.specs.Declared.{IsNamed, a_parameter, an_unknown, RootAs}
use Rattle.typing_conditions.proofs.Steps.{same_node, old_or_new}
use Rattle.typing_conditions.proofs.Roots.{named_bound}
use Rattle.typing_conditions.proofs.Uses.{filling_known, instance_is_use}
use Rattle.first_laws.specs.Declaring.{SpecifiedAs}

-- of the first n variables, the type of the last one that passes a test; where none does, t
abbrev chosen : (ℕ → Bool) → Types → Typ → ℕ → Typ
chosen test s t zero = t
chosen test s t (suc n) = if test n then s n else chosen test s t n

-- where one alone passes, it is the type of that one
chosen_is : (test : ℕ → Bool) (s : Types) (t : Typ) (v : ℕ) → test v ≡ true → ((w : ℕ) → test w ≡ true → w ≡ v) → (n : ℕ) → v < n → chosen test s t n ≡ s v
chosen_is test s t v passes one zero lt = absurd (omega arith)
chosen_is test s t v passes one (suc n) lt = by (chosen_is test s t v passes one n) (test n) refl
  where
    by : (v < n → chosen test s t n ≡ s v) → (b : Bool) → test n ≡ b → (if b then s n else chosen test s t n) ≡ s v
    by before true h = ap s (one n h)
    by before false h = elim (old_or_new v n) [
      | inl less ↦ before less
      | inr le ↦ absurd (let e : n ≡ v = omega arith in no_yes (sym h ∙ ap test e ∙ passes))
    ]

-- where no unknown type stands in a type with names, none stands in the name of a variable of the type
mutual
  pub known_there : (N : Types) (v : ℕ) (t : Typ) → occurs v t ≡ true → IsKnown (apply N t) → IsKnown (N v)
  known_there N v (type.Var w) o known = subst (λ u. IsKnown (N u)) (sym (eqb-true v w o)) known
  known_there N v (type.Arrow a b) o known = elim (or_cases (occurs v a) (occurs v b) o) [ inl i ↦ known_there N v a i known.0 | inr i ↦ known_there N v b i known.1 ]
  known_there N v (type.Tuple ts) o known = known_there_all N v ts o known
  known_there N v (type.Con p ts) o known = known_there_all N v ts o known.1

  known_there_all : (N : Types) (v : ℕ) (ts : Typs) → occurs_any v ts ≡ true → AreKnown (apply_all N ts) → IsKnown (N v)
  known_there_all N v types.Nil o known = absurd (no_yes o)
  known_there_all N v (types.Cons t ts) o known = elim (or_cases (occurs v t) (occurs_any v ts) o) [ inl i ↦ known_there N v t i known.0 | inr i ↦ known_there_all N v ts i known.1 ]

module _ {nodes : List Node} {C : List ℕ} {N : Types} {r : ℕ} {sc : Scheme} (I : Types) (own : IsOwn nodes I) (at : SpecifiedAs nodes C N r sc) where
  root : RootAs nodes C N at.arity r at.type
  root = at.root

  is_var : (v : ℕ) → occurs v (I r) ≡ true → (scope : ℕ) × (slice_get nodes v ≡ Some (Var bound_level scope))
  is_var v o = named_bound (root.named I own v o)

  -- no free variable stands in the root
  none_free : (u : ℕ) → IsFreeVar nodes u → StandsIn nodes u r → ⊥
  none_free u free stands =
      let (scope, e) = is_var u (stands_occurs nodes I u r own.loose (own.vars u free.level free.scope free.at) stands) in
      free.free (same_node nodes u free.level free.scope bound_level scope free.at e)

  free_alike : (V : Types) → FreeAlike nodes V r sc
  free_alike V = record { inside = root.inside; each = λ u w free stands o. absurd (none_free u free stands) }

  -- a variable of the root has the name of a parameter, since no unknown type stands in the type
  named_parameter : (v : ℕ) → occurs v (I r) ≡ true → (k : ℕ) × (N v ≡ type.Var k)
  named_parameter v o = by (root.named I own v o)
    where
      by : IsNamed nodes N at.arity v → (k : ℕ) × (N v ≡ type.Var k)
      by (a_parameter scope k e other lt is) = (k, is)
      by (an_unknown p e unknown is) =
          let known : IsKnown (type.Con p types.Nil) = subst IsKnown is (known_there N v (I r) o (subst IsKnown (root.is I own) at.known)) in
          absurd (no_yes (sym known.0 ∙ unknown))

  -- the types of a use for the root's variables, and the others as they are
  on : Subst → Types → Subst
  on s V u = choose (is_bound nodes u) (apply s (N u)) (V u)

  by_others : Subst → Types → Types
  by_others s V n = apply (on s V) (I n)

  variant : (s : Subst) (V : Types) → IsVariant nodes V (by_others s V)
  unfolding on by_others
  variant s V = record {
    loose = loose_apply nodes (on s V) I own.loose;
    free = λ n l o e free. ap (apply (on s V)) (own.vars n l o e) ∙ ap (λ b. choose b (apply s (N n)) (V n)) (free_there nodes n l o e free);
  }

  -- an instance of the scheme is the root's type with these
  instance_is : (s : Subst) (V : Types) → apply s at.type ≡ by_others s V r
  unfolding on by_others
  instance_is s V =
      ap (apply s) (root.is I own) ∙ apply-apply s N (I r)
      ∙ sym (apply_agree (on s V) (after s N) (I r) (λ v o. let (scope, e) = is_var v o in ap (λ b. choose b (apply s (N v)) (V v)) (bound_there nodes v (Var bound_level scope) e refl)))

  -- Under types that fit it stands for the scheme.
  pub specified_fits : (V : Types) → Loose nodes V → SchemeFits nodes V r sc
  specified_fits V loose = record {
    free = free_alike V;
    takes = λ t h.
        let taken : IsUse (all_bound at.type) t = subst (λ x. IsUse x t) at.scheme h in
        let (s, fixes, e) = taken.instance in
        record {
          types = by_others s V;
          variant = variant s V;
          is = e ∙ ap (apply s) (filling_known taken.fill at.type at.known) ∙ instance_is s V;
        };
  }

  -- whether a variable of the root has this name
  has_name : ℕ → ℕ → Bool
  has_name k v = occurs v (I r) && occurs k (N v)

  name_is : (v k j : ℕ) → N v ≡ type.Var j → occurs k (N v) ≡ true → k ≡ j
  name_is v k j is o = eqb-true k j (sym (ap (occurs k) is) ∙ o)

  -- types for the parameters, each that of the variable with its name
  back : Subst → Subst
  back s k = chosen (has_name k) s (type.Var k) (length nodes)

  back_is : (s : Subst) (v : ℕ) → occurs v (I r) ≡ true → apply (back s) (N v) ≡ s v
  unfolding has_name back
  back_is s v o =
      let (k, is) = named_parameter v o in
      let (scope, e) = is_var v o in
      ap (apply (back s)) is
      ∙ chosen_is (has_name k) s (type.Var k) v (and_both (occurs v (I r)) (occurs k (N v)) o (ap (occurs k) is ∙ eqb_same k)) (one k is) (length nodes) (slice_get_within nodes v (Var bound_level scope) e)
    where
      one : (k : ℕ) → N v ≡ type.Var k → (w : ℕ) → has_name k w ≡ true → w ≡ v
      one k is w h =
          let (p, q) = and_cases (occurs w (I r)) (occurs k (N w)) h in
          let (j, named) = named_parameter w p in
          root.apart I own w v p o (named ∙ ap type.Var (sym (name_is w k j named q)) ∙ sym is)

  own_reading : (V : Types) → IsReading nodes V → V r ≡ I r
  own_reading V reads = own.comes V (fits_loosely nodes V reads.fits) r ∙ apply_agree V type.Var (I r) (λ v o. let (scope, e) = is_var v o in reads.own v scope e) ∙ apply_Var (I r)

  none_in_scheme : (w : ℕ) → free_in_scheme w sc ≡ true → ⊥
  none_in_scheme w h = let (o, b) = and_cases (occurs w at.type) false (sym (ap (free_in_scheme w) at.scheme) ∙ h) in no_yes b

  -- At a reading it stands for the scheme both ways.
  pub specified_reads : (V : Types) → IsReading nodes V → SchemeReads nodes V r sc
  unfolding back
  specified_reads V reads = record {
    free = free_alike V;
    only = λ w h. absurd (none_in_scheme w h);
    none = λ b bound. never (free_in_scheme b sc) (none_in_scheme b);
    gives = λ s fixes.
        subst (λ x. IsUse x (apply s (V r))) (sym at.scheme)
        (instance_is_use (all_bound at.type) (apply s (V r)) at.known
        (back s, (λ v b. absurd (no_yes (sym b))), ap (apply s) (own_reading V reads) ∙ sym (ap (apply (back s)) (root.is I own) ∙ apply-apply (back s) N (I r) ∙ apply_agree (after (back s) N) s (I r) (back_is s))));
  }
    where
      never : (b : Bool) → (b ≡ true → ⊥) → b ≡ false
      never true h = absurd (h refl)
      never false h = refl
