-- Two nodes without bound variables have one type in some reading, scopes aside, exactly where their own types can be made one.
use Rattle.std.proofs.Common.{◌≡◌, ◌∙◌, ℕ, ◌<◌, Bool, true, false, List, length, refl, sym, ap, if◌then◌else◌}
use Rattle.type_model.specs.Types.{Typ, occurs}
use Rattle.type_model.specs.Types.{Typ as type, Typs as types}
use Rattle.type_model.specs.Substitutions.{Subst, apply, after}
use Rattle.type_model.proofs.Applying.{apply_agree, apply-apply, occurs_from}
use Rattle.fault_model.specs.Messages.{AreUnifiable}
use Rattle.type_nodes.specs.Nodes.{Node, Var, bound_level}
use Rattle.type_nodes.specs.Readings.{Types}
use Rattle.level_unify.specs.Solutions.{HaveNoBound}
use Rattle.level_unify.specs.Instances.{is_bound}
use Rattle.level_unify.specs.Unification.{IsUnscopedReading, IsAlikeUnscoped}
use Rattle.level_unify.proofs.Variants.{bound_there, free_there, loose_apply}
use Rattle.typing_conditions.specs.Locals.{IsOwn}
use Rattle.typing_laws.proofs.Bools.{no_yes}

-- no variable stands in a type of which each variable is the empty tuple
ground : Subst
ground v = type.Tuple types.Nil

ground_closed : (b : ℕ) (t : Typ) → occurs b (apply ground t) ≡ false
unfolding ground
ground_closed b t = by (occurs b (apply ground t)) (λ o. let c = occurs_from ground b t o in no_yes c.2)
  where
    by : (x : Bool) → (x ≡ true → ⊥) → x ≡ false
    by true h = absurd (h refl)
    by false h = refl

module _ (nodes : List Node) (I : Types) (own : IsOwn nodes I) where
  -- each bound variable itself, and the others as a substitution has them, without variables
  abbrev grounded : Subst → Subst
  grounded s v = if is_bound nodes v then type.Var v else apply ground (s v)

  of_bound : (s : Subst) (v : ℕ) → is_bound nodes v ≡ true → grounded s v ≡ type.Var v
  of_bound s v e = ap (λ (b : Bool). if b then type.Var v else apply ground (s v)) e

  of_free : (s : Subst) (v : ℕ) → is_bound nodes v ≡ false → grounded s v ≡ apply ground (s v)
  of_free s v e = ap (λ (b : Bool). if b then type.Var v else apply ground (s v)) e

  -- the own types with these in the place of variables are a reading, scopes aside
  grounded_reads : (s : Subst) → IsUnscopedReading nodes (λ n. apply (grounded s) (I n))
  grounded_reads s = record {
    loose = loose_apply nodes (grounded s) I own.loose;
    own = λ n scope e. ap (apply (grounded s)) (own.vars n bound_level scope e) ∙ of_bound s n (bound_there nodes n (Var bound_level scope) e refl);
    apart = λ n level scope b scope' e free e'. ap (occurs b) (ap (apply (grounded s)) (own.vars n level scope e) ∙ of_free s n (free_there nodes n level scope e free)) ∙ ground_closed b (s n);
  }

  module _ {a b : ℕ} (in_a : a < length nodes) (in_b : b < length nodes) (open_types : HaveNoBound nodes a b) where
    -- at a node without bound variables it is what the substitution gives
    gives : (s : Subst) (n : ℕ) → n < length nodes → open_types.set n ≡ true → apply (grounded s) (I n) ≡ apply ground (apply s (I n))
    gives s n lt has =
        apply_agree (grounded s) (after ground s) (I n) (λ v o.
        let var = own.only n v lt o in
        of_free s v (free_there nodes v var.level var.scope var.at (open_types.free v var.level var.scope ((own.stands n v lt o).each open_types.set open_types.closed has) var.at)))
        ∙ sym (apply-apply ground s (I n))

    pub alike_unscoped : AreUnifiable (I a) (I b) → IsAlikeUnscoped nodes a b
    alike_unscoped (s, e) = (λ n. apply (grounded s) (I n), grounded_reads s, gives s a in_a open_types.left ∙ ap (apply ground) e ∙ sym (gives s b in_b open_types.right))

  pub own_unifiable : {a b : ℕ} → IsAlikeUnscoped nodes a b → AreUnifiable (I a) (I b)
  own_unifiable {a} {b} (V, reads, e) = (V, sym (own.comes V reads.loose a) ∙ e ∙ own.comes V reads.loose b)
