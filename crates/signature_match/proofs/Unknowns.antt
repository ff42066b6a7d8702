-- Unknown types in one of two nodes.
use Rattle.std.proofs.Common.{◌≡◌, ◌↔◌, ◌⊎◌, ℕ, Bool, true, false, List, Result, Ok, Err, sym, ◌∙◌, inl, inr}
use Rattle.std.specs.Prelude.{IfOk, IsTrue}
use Rattle.std.specs.declared.alloc.AllocError.{AllocError}
use Rattle.type_terms.specs.declared.types.NodeRef.{NodeRef}
use Rattle.type_nodes.specs.Nodes.{Node, IsNode}
use Rattle.scheme_match.specs.Unknown.{HasUnknown}
use Rattle.signature_match.specs.Values.{AreComparable}

-- where nothing unknown stands in the first, the second decides
pub second_unknown : (nodes : List Node) (one other : ℕ) (first : Bool) (r : Result Bool AllocError) → first ≡ false → (IsNode nodes one → IsTrue first ↔ HasUnknown nodes one) →
    IfOk r (λ u. IsNode nodes other → IsTrue u ↔ HasUnknown nodes other) → IfOk r (λ u. IsNode nodes one → IsNode nodes other → IsTrue u ↔ (HasUnknown nodes one ⊎ HasUnknown nodes other))
second_unknown nodes one other first (Ok u) lacks a b = λ in_one in_other. (
  (λ t. inr ((b in_other).0 t)),
  (λ either. elim either [ inl x ↦ absurd (let e : true ≡ false = sym ((a in_one).1 x) ∙ lacks in cc) | inr y ↦ (b in_other).1 y ]),
)
second_unknown nodes one other first (Err e) lacks a b = tt

-- nothing is asked of two nodes of which one has something unknown
pub asks_nothing : (nodes : List Node) (one other : NodeRef) (u : Bool) (r : Result Bool AllocError) (P : Bool → Type 0) → u ≡ true → (IsNode nodes one.0 → IsNode nodes other.0 → IsTrue u ↔ (HasUnknown nodes one.0 ⊎ HasUnknown nodes other.0)) →
    IfOk r (λ met. (HasUnknown nodes one.0 → ⊥) → AreComparable nodes one other → P met)
asks_nothing nodes one other u (Ok met) P has test = λ none comparable. elim ((test comparable.actual_inside comparable.wanted_inside).0 has) [ inl x ↦ absurd (none x) | inr y ↦ absurd (comparable.known y) ]
asks_nothing nodes one other u (Err e) P has test = tt
