-- No type is loosened: by the calls on a store, and by one call after another.
use Rattle.std.proofs.Common.{◌≡◌, ◌≢◌, ℕ, ◌++◌, ◌∷◌, [], List, length, Some, Option, refl, sym, ◌∙◌, ap, subst, arith, ◌⊎◌, inl, inr}
use Rattle.std.specs.Prelude.{slice_get}
use Rattle.std.proofs.lemmas.Option.{slice_get_within}
use Rattle.std.proofs.lemmas.List.{length-set}
use Rattle.type_nodes.specs.Nodes.{Node, Var, Rigid, Link, Arrow, Tuple, Con, bound_level}
use Rattle.type_nodes.specs.Links.{root}
use Rattle.type_nodes.specs.States.{State}
use Rattle.type_nodes.specs.Changes.{Makes, Quantifies, Replaced}
use Rattle.type_nodes.proofs.Lists.{get-append_left, get-set_other, length-snoc, one_element, same_or_other}
use Rattle.type_nodes.specs.Readings.{Types}
use Rattle.level_unify.specs.Solutions.{Loose, FitsLoosely, Solved, Tightens, Cap}
use Rattle.level_unify.specs.Limits.{CappedTo}
use Rattle.level_unify.specs.Generalising.{Generalised, IsAbove}
use Rattle.level_unify.specs.Copies.{Extends}
use Rattle.level_unify.proofs.SameNodes.{loose_same}

pub tightens_refl : (nodes : List Node) → Tightens nodes nodes
tightens_refl nodes = record { nodes = omega arith; types = λ V fits. fits }

pub tightens_trans : (a b c : List Node) → Tightens a b → Tightens b c → Tightens a c
tightens_trans a b c p q = let m = p.nodes in let n = q.nodes in record { nodes = omega arith; types = λ V fits. p.types V (q.types V fits) }

pub tightens_same : (old new : List Node) → new ≡ old → Tightens old new
tightens_same old new e = subst (Tightens old) (sym e) (tightens_refl old)

-- nodes that stay as they are, with others behind them
pub extends_tightens : (old new : List Node) → Extends old new → Tightens old new
extends_tightens old new e = record {
  nodes = e.longer;
  types = λ V fits. record { each = λ n c at. fits.each n c (e.node n (slice_get_within old n c at) ∙ at) };
}

-- after unification: what was solved, with the limits of the variables that were bound
pub solved_tightens : (old mid new : List Node) (a b : ℕ) (caps : List Cap) → Solved old mid a b → CappedTo mid new caps (length caps) → Tightens old new
solved_tightens old mid new a b caps s c =
    let m = s.len in
    let n = c.same.len in
    record { nodes = omega arith; types = λ V fits. (s.back V (loose_same mid new c.same V fits)).0 }

-- a new node behind the others
pub makes_tightens : (old new : State) (n : ℕ) (c : Node) → Makes old new n c → Tightens old.nodes new.nodes
makes_tightens old new n c m =
    let len = ap length m.added.nodes ∙ length-snoc old.nodes c in
    record {
      nodes = omega arith;
      types = λ V fits. record { each = λ k d at. fits.each k d (ap (λ ns. slice_get ns k) m.added.nodes ∙ get-append_left old.nodes (c ∷ []) k (slice_get_within old.nodes k d at) ∙ at) };
    }

-- a free variable that is bound: a variable fits whatever its level is
pub quantifies_tightens : (old new : State) (v : ℕ) → Quantifies old new v → Tightens old.nodes new.nodes
quantifies_tightens old new v q = record {
  nodes = let len = ap length w.nodes ∙ length-set old.nodes (root old.nodes v) (Var bound_level q.scope) in omega arith;
  types = λ V fits. record { each = λ n c at. each V fits n c at (same_or_other n (root old.nodes v)) };
}
  where
    w : Replaced old new (root old.nodes v) (Var bound_level q.scope)
    w = q.bound.written

    each : (V : Types) → Loose new.nodes V → (n : ℕ) (c : Node) → slice_get old.nodes n ≡ Some c → (n ≡ root old.nodes v) ⊎ (n ≢ root old.nodes v) → FitsLoosely V n c
    each V fits n c at (inl same) =
        let var : c ≡ Var q.level q.scope = one_element c (Var q.level q.scope) (slice_get old.nodes n) at (ap (slice_get old.nodes) same ∙ q.was) in
        subst (FitsLoosely V n) (sym var) tt
    each V fits n c at (inr other) = fits.each n c (ap (λ ns. slice_get ns n) w.nodes ∙ get-set_other old.nodes (root old.nodes v) n (Var bound_level q.scope) other ∙ at)

-- the same for all variables above a level
pub generalised_tightens : (old new : List Node) (r level : ℕ) → Generalised old new r level → Tightens old new
generalised_tightens old new r level g = record {
  nodes = let len = g.len in omega arith;
  types = λ V fits. record { each = each V fits };
}
  where
    stays : (V : Types) → Loose new V → (n : ℕ) (c : Node) → slice_get old n ≡ Some c → (IsAbove level c → ⊥) → FitsLoosely V n c
    stays V fits n c at not = fits.each n c (g.stays n c at (λ above. absurd (not above)))

    each : (V : Types) → Loose new V → (n : ℕ) (c : Node) → slice_get old n ≡ Some c → FitsLoosely V n c
    each V fits n (Var l o) at = tt
    each V fits n Rigid at = stays V fits n Rigid at (λ above. above)
    each V fits n (Link m) at = stays V fits n (Link m) at (λ above. above)
    each V fits n (Arrow a b) at = stays V fits n (Arrow a b) at (λ above. above)
    each V fits n (Tuple ms) at = stays V fits n (Tuple ms) at (λ above. above)
    each V fits n (Con p name ms) at = stays V fits n (Con p name ms) at (λ above. above)
