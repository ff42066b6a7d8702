-- Constructors without arguments.
use Rattle.std.proofs.Common.{◌≡◌, ◌≢◌, ◌<◌, ℕ, List, [], ◌∷◌, length, Some, refl, subst, arith}
use Rattle.std.specs.Prelude.{slice_get}
use Rattle.type_model.specs.Types.{Path}
use Rattle.type_terms.specs.declared.types.NodeRef.{NodeRef}
use Rattle.type_nodes.specs.Nodes.{Node, Con, Apart}
use Rattle.type_nodes.specs.Links.{root, reading}
use Rattle.type_nodes.specs.Views.{numbers}
use Rattle.type_nodes.proofs.Writes.{apart_leaf}

-- nothing else occurs in a constructor without arguments that is no link to one
pub leaf_apart : (nodes : List Node) (v n : ℕ) (path : Path) (name : List ℕ) (args : List NodeRef) → root nodes n ≡ n → reading nodes n ≡ Some (Con path name (numbers args)) → length args < 1 → v ≢ n → Apart nodes v n
leaf_apart nodes v n path name [] own reads few other = apart_leaf nodes v n (Con path name []) (subst (λ k. slice_get nodes k ≡ Some (Con path name [])) own reads) refl other
leaf_apart nodes v n path name (m ∷ ms) own reads few other = absurd (omega arith)
