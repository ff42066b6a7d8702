use Rattle.std.proofs.Common.{◌≡◌, ◌+◌, ◌++◌, map, drop}
use Rattle.tree_model.specs.Nodes.{holders, forest_holders, id}
use Rattle.tree_model.specs.Trees.{forest_size, size_of, AreSized}
use Rattle.syntax_tree.specs.Names.{row_of}
use Rattle.syntax_tree.specs.declared.tree.Node.{out-Node}
use Rattle.syntax_tree.specs.View.{child_view, forest_of, id_of, node_view}
use Rattle.syntax_tree.proofs.around.+around.Given as goal

abbrev pub decreases-collect_node : goal.decreases-collect_node
decreases-collect_node l = goal.size-collect_node l

abbrev pub decreases-collect_part : goal.decreases-collect_part
decreases-collect_part l = goal.size-collect_part l

abbrev pub invariant-collect_node-loop-child : goal.invariant-collect_node-loop-child
invariant-collect_node-loop-child l =
    let left = forest_of (map child_view (drop l.child-index l.child-items)) in
    AreSized left
    × (map id_of l.out.items ++ map (id l.at.item) (forest_holders l.offset l.pre (row_of (out-Node l.node).row) left)
    ≡ map id_of l.fn.out.items ++ map (id l.at.item) (holders l.offset l.at.pre (node_view l.node)))
    × (l.pre + forest_size (row_of (out-Node l.node).row) left ≡ l.at.pre + size_of (node_view l.node))
