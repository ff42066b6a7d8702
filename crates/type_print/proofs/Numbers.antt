-- Nodes of a list and their numbers.
use Rattle.std.proofs.Common.{ℕ, zero, suc, ◌<◌, List, [], ◌∷◌, length, get_or, arith}
use Rattle.std.specs.Prelude.{All}
use Rattle.type_terms.specs.declared.types.NodeRef.{NodeRef}
use Rattle.type_nodes.specs.Views.{numbers}

-- what holds of all numbers holds of that of a node of the list
pub number_of : (P : ℕ → Type 0) (ns : List NodeRef) (k : ℕ) (d : NodeRef) → All P (numbers ns) → k < length ns → P (get_or ns k d).0
number_of P [] k d all h = absurd (omega arith)
number_of P (n ∷ ns) zero d all h = all zero zero (omega arith)
number_of P (n ∷ ns) (suc k) d all h = number_of P ns k d (λ j e l. all (suc j) e (omega arith)) (omega arith)

-- what holds of a number and of others holds of all of them
pub all_more : (P : ℕ → Type 0) (n : ℕ) (ns : List ℕ) → P n → All P ns → All P (n ∷ ns)
all_more P n ns h all zero d lt = h
all_more P n ns h all (suc k) d lt = all k d (omega arith)
