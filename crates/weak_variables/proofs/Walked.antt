-- Walks from one node after another, each of which leaves out what was walked before.
use Rattle.std.proofs.Common.{◌≡◌, ◌∙◌, inl, inr, ℕ, ◌<◌, Bool, false, List, length, refl, sym, ap, subst}
use Rattle.type_terms.specs.declared.types.NodeRef.{NodeRef}
use Rattle.type_nodes.specs.Nodes.{Node, IsSound}
use Rattle.type_nodes.specs.Links.{root}
use Rattle.type_nodes.specs.Views.{numbers}
use Rattle.level_unify.specs.Walks.{ReachedBeyond}
use Rattle.level_unify.proofs.Walking.{beyond_cleared, closed_by_roots}
use Rattle.typing_conditions.specs.Standing.{IsIn}
use Rattle.weak_variables.specs.Listed.{Adds, Finds}
use Rattle.weak_variables.specs.Search.{IsFreeAs, AreWalked}
use Rattle.weak_variables.proofs.Searching.{free_is, is_free_var, look_none, root_of_free}

-- where nothing was walked
pub walked_none : (nodes : List Node) (walked listed : ℕ → Bool) → ((n : ℕ) → walked n ≡ false) → AreWalked nodes walked listed
walked_none nodes walked listed none = record {
  cleared = record { each = λ n c has. absurd (let e = none n in cc) };
  free = λ v has f. absurd (let e = none v in cc);
}

-- what is reached from a node beyond what was walked
pub walk_reached : (nodes : List Node) (n : ℕ) (ms ns : List NodeRef) (a b old new : ℕ → Bool) (us vs : List ℕ) → IsSound nodes → ReachedBeyond nodes a b n (numbers ms) → ns ≡ ms → Adds (IsFreeAs nodes (IsIn (numbers ns))) old new us vs → AreWalked nodes a old →
    AreWalked nodes b new × Finds nodes (λ m. m ≡ n) old new us vs
walk_reached nodes n ms ns a b old new us vs sound r same adds was = by (subst (λ xs. Adds (IsFreeAs nodes (IsIn (numbers xs))) old new us vs) same adds)
  where
    by : Adds (IsFreeAs nodes (IsIn (numbers ms))) old new us vs → AreWalked nodes b new × Finds nodes (λ m. m ≡ n) old new us vs
    by h = (
      walked,
      record {
        lists = h.lists;
        all = λ v p.
            let (m, at, f) = p in
            let closed = closed_by_roots nodes b sound walked.cleared in
            let there = f.stands.each (λ k. b (root nodes k)) closed (ap (λ k. b (root nodes k)) at ∙ r.start) in
            walked.free v (ap b (sym (root_of_free nodes v f.var)) ∙ there) f.var;
        found = λ v is. elim (h.found v is) [
          | inl earlier ↦ inl earlier
          | inr p ↦ let (k, at) = p.0 in let one = r.roots.each k v at in inr (n, refl, record { var = is_free_var nodes v one.1 p.1; stands = one.2 })
        ];
      },
    )
      where
        walked : AreWalked nodes b new
        walked = record {
          cleared = beyond_cleared nodes a b n (numbers ms) was.cleared r;
          free = λ v has f. elim (r.listed v has) [ inl before ↦ h.lists.keeps v (was.free v before f) | inr at ↦ h.all v (at, free_is nodes v f) ];
        }

-- and what is no node
pub walk_none : (nodes : List Node) (n : ℕ) (a old : ℕ → Bool) (us : List ℕ) → (n < length nodes → ⊥) → AreWalked nodes a old → AreWalked nodes a old × Finds nodes (λ m. m ≡ n) old old us us
walk_none nodes n a old us none was = (was, look_none nodes n old us none)
