use Rattle.std.proofs.Common.{◌≡◌, ◌+◌, map, drop}
use Rattle.std.specs.Option.{option_or}
use Rattle.tree_model.specs.Lasts.{last_holder, last_in}
use Rattle.tree_model.specs.Trees.{forest_size, size_of, AreSized}
use Rattle.syntax_tree.specs.Names.{row_of}
use Rattle.syntax_tree.specs.declared.tree.Node.{out-Node}
use Rattle.syntax_tree.specs.View.{child_view, forest_of, node_view}
use Rattle.syntax_tree.proofs.at.+at.Given as goal

abbrev pub decreases-last_in_node : goal.decreases-last_in_node
decreases-last_in_node l = goal.size-last_in_node l

abbrev pub decreases-last_in_part : goal.decreases-last_in_part
decreases-last_in_part l = goal.size-last_in_part l

abbrev pub invariant-last_in_node-loop-child : goal.invariant-last_in_node-loop-child
invariant-last_in_node-loop-child l =
    let left = forest_of (map child_view (drop l.child-index l.child-items)) in
    AreSized left
    × (option_or (last_in l.offset l.next (row_of (out-Node l.node).row) left) l.last ≡ last_holder l.offset l.number (node_view l.node))
    × (l.next + forest_size (row_of (out-Node l.node).row) left ≡ l.number + size_of (node_view l.node))
