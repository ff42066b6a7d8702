-- What an attempt leaves, and two roots that are one.
use Rattle.std.proofs.Common.{◌≡◌, ℕ, true, false, List, refl, sym, ◌∙◌, ap}
use Rattle.type_model.specs.Substitutions.{apply}
use Rattle.type_nodes.specs.Nodes.{Node, IsSound}
use Rattle.type_nodes.specs.Links.{root}
use Rattle.type_nodes.specs.Readings.{Types, IsReading}
use Rattle.level_unify.specs.Instances.{Instantiated, Frozen}
use Rattle.level_unify.specs.Solutions.{HaveNoBound, Tightens}
use Rattle.level_unify.specs.Unification.{Unified, NeverAlike}
use Rattle.level_unify.proofs.Solving.{loose_root}
use Rattle.level_unify.proofs.Unified.{fits_loosely}
use Rattle.level_unify.proofs.Unbound.{both_unbound, still_unbound}
use Rattle.level_unify.proofs.Tightening.{tightens_trans, extends_tightens}
use Rattle.scheme_match.specs.Covering.{Met, Tried}

-- no bound variable stands in the two copies
both_free : (old m1 m2 : List Node) (a w level f m : ℕ) → IsSound m1 → Frozen old m1 w f → Instantiated m1 m2 a level m → HaveNoBound m2 m f
both_free old m1 m2 a w level f m sound fr ins = both_unbound m2 m m f f ins.unbound (still_unbound m1 m2 f f sound ins.extends fr.inside fr.inside fr.unbound)

pub tried_met : (old m1 m2 new : List Node) (a w level f m : ℕ) → IsSound m1 → Frozen old m1 w f → Instantiated m1 m2 a level m → (HaveNoBound m2 m f → Unified m2 new m f) → Tried old new a w level true
tried_met old m1 m2 new a w level f m sound fr ins one = record {
  frozen = m1;
  both = m2;
  instance = m;
  rigid = f;
  freezes = fr;
  makes = ins;
  one = λ e. one (both_free old m1 m2 a w level f m sound fr ins);
  never = λ e. absurd cc;
}

pub tried_unmet : (old m1 m2 new : List Node) (a w level f m : ℕ) → IsSound m1 → Frozen old m1 w f → Instantiated m1 m2 a level m → (HaveNoBound m2 m f → NeverAlike m2 m f) → Tried old new a w level false
tried_unmet old m1 m2 new a w level f m sound fr ins never = record {
  frozen = m1;
  both = m2;
  instance = m;
  rigid = f;
  freezes = fr;
  makes = ins;
  one = λ e. absurd cc;
  never = λ e. never (both_free old m1 m2 a w level f m sound fr ins);
}

pub attempt_tightens : (old m1 m2 new : List Node) (a w level f m : ℕ) → Frozen old m1 w f → Instantiated m1 m2 a level m → Tightens m2 new → Tightens old new
attempt_tightens old m1 m2 new a w level f m fr ins t = tightens_trans old m1 new (extends_tightens old m1 fr.extends) (tightens_trans m1 m2 new (extends_tightens m1 m2 ins.extends) t)

-- two nodes with one root have one scheme
pub one_root : (nodes : List Node) (a w : ℕ) → root nodes a ≡ root nodes w → Met nodes nodes a w
one_root nodes a w e = record {
  reads = λ V r. (r, record { each = λ x h. let (q, fixes, ex) = h in (q, fixes, ex ∙ ap (apply q) (sym (same V r))) });
  read = λ V r c. (V, r, (λ n lt. refl));
}
  where
    same : (V : Types) → IsReading nodes V → V a ≡ V w
    same V r = let loose = fits_loosely nodes V r.fits in loose_root nodes V loose a ∙ ap V e ∙ sym (loose_root nodes V loose w)
