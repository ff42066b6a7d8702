-- Unknown types among the roots that stand in a node.
use Rattle.std.proofs.Common.{◌≡◌, ◌≢◌, ◌↔◌, ℕ, zero, ◌+◌, ◌<◌, ◌≤◌, Bool, true, false, List, length, get_or, Some, refl, sym, ◌∙◌, ap, subst, arith, inl, inr}
use Rattle.std.specs.Prelude.{slice_get, All, IsTrue}
use Rattle.std.proofs.lemmas.Option.{slice_get_within}
use Rattle.type_nodes.specs.Nodes.{Node}
use Rattle.type_nodes.specs.Links.{root, reading}
use Rattle.type_nodes.proofs.Lists.{same_or_other, one_element}
use Rattle.level_unify.specs.Walks.{StandsIn, Reached}
use Rattle.level_unify.proofs.Instances.{var_root}
use Rattle.level_unify.proofs.Walking.{get_here}
use Rattle.scheme_match.specs.Unknown.{unknown_node, IsAnyUnknown, HasUnknown}

not_true : IsTrue false → ⊥
not_true h = cc

pub some_unknown : (nodes : List Node) (ms : List ℕ) (k m : ℕ) → slice_get ms k ≡ Some m → reading nodes m ≡ Some unknown_node → IsTrue true ↔ IsAnyUnknown nodes ms
some_unknown nodes ms k m here is = ((λ h. (k, m, here, is)), λ h. refl)

pub none_unknown : (nodes : List Node) (ms : List ℕ) (at m : ℕ) → slice_get ms at ≡ Some m → reading nodes m ≢ Some unknown_node →
    ((k n : ℕ) → k < at → slice_get ms k ≡ Some n → reading nodes n ≢ Some unknown_node) → (k n : ℕ) → k < at + 1 → slice_get ms k ≡ Some n → reading nodes n ≢ Some unknown_node
none_unknown nodes ms at m here none h k n lt e = elim (same_or_other k at) [
  | inl same ↦
      let f : m ≡ n = one_element m n (slice_get ms at) here (subst (λ j. slice_get ms j ≡ Some n) same e) in
      subst (λ j. reading nodes j ≢ Some unknown_node) f none
  | inr other ↦ h k n (omega arith) e
]

pub all_known : (nodes : List Node) (ms : List ℕ) (at : ℕ) → length ms ≤ at → ((k n : ℕ) → k < at → slice_get ms k ≡ Some n → reading nodes n ≢ Some unknown_node) → IsTrue false ↔ IsAnyUnknown nodes ms
all_known nodes ms at over h = ((λ t. absurd (not_true t)), λ (k, m, e, is). absurd (h k m (let l = slice_get_within ms k m e in omega arith) e is))

-- the roots that stand in a node are nodes
pub roots_inside : (nodes : List Node) (n : ℕ) (found : List ℕ) → Reached nodes n found → All (λ m. m < length nodes) found
roots_inside nodes n found r k d lt = (r.roots k (get_or found k d) (get_here found k d lt)).0

-- an unknown type stands in a node where it is one of the roots
pub told : (nodes : List Node) (n : ℕ) (found : List ℕ) (b : Bool) → Reached nodes n found → IsTrue b ↔ IsAnyUnknown nodes found → IsTrue b ↔ HasUnknown nodes n
told nodes n found b r test = (
  (λ t. let (k, m, e, is) = test.0 t in
      let (inside, end, stands) = r.roots k m e in
      (m, stands, subst (λ x. slice_get nodes x ≡ Some unknown_node) end is)),
  (λ h. let (v, stands, is) = h in
      let (k, e) = r.listed v (stands.each r.set r.closed r.start) in
      let own = var_root nodes v _ _ is in
      test.1 (k, root nodes v, e, ap (λ x. slice_get nodes x) (ap (root nodes) own ∙ own) ∙ is)),
)
