-- What the plain tree of a node has.
use Rattle.std.proofs.Common.{◌≡◌, ℕ, map}
use Rattle.tree_model.specs.Rows.{Row}
use Rattle.tree_model.specs.Trees as plain
use Rattle.syntax_tree.specs.Names.{row_of}
use Rattle.syntax_tree.specs.View.{node_view, child_view, part_view, forest_of, place_of, part_step, child_step, node_step}
use Rattle.syntax_tree.specs.declared.tree.Child.{Child, fold_out-Child}
use Rattle.syntax_tree.specs.declared.tree.Node.{Node, out-Node, fold_out-Node}

-- what a node tells of itself
abbrev pub row_in : Node → Row
row_in n = row_of (out-Node n).row

abbrev pub extent_in : Node → plain.Extent
extent_in n = plain.extent (place_of (out-Node n).span) (out-Node n).size (out-Node n).height

-- a node's plain tree has its row, its extent and its parts
pub node_view_parts : (n : Node) → node_view n ≡ plain.node (row_in n) (extent_in n) (forest_of (map child_view (out-Node n).children.items))
node_view_parts n = fold_out-Node plain.Part (ℕ × plain.Part) plain.Tree part_step child_step node_step n

-- a child is its slot and its part
pub child_view_parts : (c : Child) → child_view c ≡ (c.slot, part_view c.part)
child_view_parts c = fold_out-Child plain.Part (ℕ × plain.Part) plain.Tree part_step child_step node_step c
