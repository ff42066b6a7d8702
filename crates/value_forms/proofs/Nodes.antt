-- What a node of the code is in the definitions: its row and its place; and how many expressions its parts are.
use Rattle.std.proofs.Common.{◌≡◌, ◌∙◌, ℕ, suc, List, [], ◌∷◌, map, length, refl, ap}
use Rattle.tree_model.specs.Extents.{extent_of}
use Rattle.tree_model.specs.Trees.{Tree, node}
use Rattle.syntax_tree.specs.Names.{row_of}
use Rattle.syntax_tree.specs.View.{node_view, place_of}
use Rattle.syntax_tree.proofs.Views.{node_view_parts}
use Rattle.syntax_tree.specs.declared.rows.RowName.{RowName}
use Rattle.syntax_tree.specs.declared.tree.Node.{Node, out-Node}
use Rattle.row_parts.specs.declared.slots.Operand.{Operand}
use Rattle.row_parts.specs.Numbered.{operand_view}
use Rattle.operand_laws.specs.Formed as formed
use Rattle.typing_rows.specs.Asked.{expressions_of}
use Rattle.value_forms.specs.Heads.{row_at}

-- its row
pub row_of_node : (nd : Node) → row_at (node_view nd) ≡ row_of (out-Node nd).row
row_of_node nd = ap row_at (node_view_parts nd)

-- its row, by the name of a row
pub row_named : (nd : Node) (r : RowName) → (out-Node nd).row ≡ r → row_at (node_view nd) ≡ row_of r
row_named nd r e = row_of_node nd ∙ ap row_of e

-- where it is
pub place_of_node : (nd : Node) → (extent_of (node_view nd)).span ≡ place_of (out-Node nd).span
place_of_node nd = ap (λ t. (extent_of t).span) (node_view_parts nd)

-- the row of a node, in both definitions
pub rows_same : (t : Tree) → formed.row_of t ≡ row_at t
rows_same (node r x ps) = refl

-- as many expressions as parts
pub parts_count : (i : ℕ) (os : List Operand) → length (expressions_of i (map operand_view os)) ≡ length os
parts_count i [] = refl
parts_count i (o ∷ os) = ap suc (parts_count i os)
