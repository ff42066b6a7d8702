-- Lists of nodes, and tests.
use Rattle.std.proofs.Common.{◌≡◌, ℕ, zero, suc, ◌<◌, Bool, true, false, List, [], ◌∷◌, length, get_or, arith}
use Rattle.std.specs.Prelude.{All}
use Rattle.type_terms.specs.declared.types.NodeRef.{NodeRef}
use Rattle.type_nodes.specs.Views.{numbers}

-- what holds of all numbers holds of a node's
pub number_at : (P : ℕ → Type 0) (ns : List NodeRef) (k : ℕ) (d : NodeRef) → All P (numbers ns) → k < length ns → P (get_or ns k d).0
number_at P [] k d h lt = absurd (omega arith)
number_at P (n ∷ ns) zero d h lt = h zero zero (omega arith)
number_at P (n ∷ ns) (suc k) d h lt = number_at P ns k d (λ j e l. h (suc j) e (omega arith)) (omega arith)

-- a test that fails doesn't hold
pub untrue : (b : Bool) → b ≡ false → b ≡ true → ⊥
untrue b f t = cc
