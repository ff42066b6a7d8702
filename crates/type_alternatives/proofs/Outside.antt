-- What a number reads as that is no node's.
use Rattle.std.proofs.Common.{◌≡◌, ℕ, zero, suc, ◌≤◌, List, [], ◌∷◌, length, slice_get, None, refl, ◌∙◌, ap, arith}
use Rattle.type_nodes.specs.Nodes.{Node}
use Rattle.type_nodes.specs.Links.{linked_from, follow, reading}

behind_all : (nodes : List Node) (n : ℕ) → length nodes ≤ n → slice_get nodes n ≡ None
behind_all [] n h = refl
behind_all (c ∷ nodes) zero h = absurd (omega arith)
behind_all (c ∷ nodes) (suc n) h = behind_all nodes n (omega arith)

stays : (nodes : List Node) (n k : ℕ) → slice_get nodes n ≡ None → follow k nodes n ≡ n
stays nodes n zero h = refl
stays nodes n (suc k) h = ap (follow k nodes) (ap (linked_from n) h) ∙ stays nodes n k h

-- it reads as nothing
pub reads_nothing : (nodes : List Node) (n : ℕ) → length nodes ≤ n → reading nodes n ≡ None
reads_nothing nodes n h = let none = behind_all nodes n h in ap (slice_get nodes) (stays nodes n (length nodes) none) ∙ none
