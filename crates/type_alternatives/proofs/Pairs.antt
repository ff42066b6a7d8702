-- Lists whose members belong to each other.
use Rattle.std.proofs.Common.{ℕ, ◌≤◌, List, [], length, drop, drop_of_length-le, subst, sym}
use Rattle.type_alternatives.specs.Alternatives.{Pairwise}

-- behind the end nothing is left
pub pairs_end : {A B : Type 0} (R : ℕ → A → B → Type 0) (k : ℕ) (xs : List A) → length xs ≤ k → Pairwise R k (drop k xs) []
pairs_end R k xs h = subst (λ ys. Pairwise R k ys []) (sym (drop_of_length-le xs h)) tt
