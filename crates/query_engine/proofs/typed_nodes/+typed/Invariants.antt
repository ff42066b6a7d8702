use Rattle.std.proofs.Common.{◌≡◌, ◌+◌, ◌++◌, map, drop}
use Rattle.query_model.specs.TypedNodes.{typed_among, typed_in}
use Rattle.tree_model.specs.Trees.{forest_size, size_of}
use Rattle.syntax_tree.specs.Names.{row_of}
use Rattle.syntax_tree.specs.View.{child_view, forest_of, node_view}
use Rattle.syntax_tree.specs.declared.tree.Node.{out-Node}
use Rattle.query_engine.specs.Typed.{may_be_label, node_of}
use Rattle.query_engine.proofs.typed_nodes.+typed.Given as goal

abbrev pub invariant-add_node-loop-child : goal.invariant-add_node-loop-child
invariant-add_node-loop-child l =
    let left = forest_of (map child_view (drop l.child-index l.child-items)) in
    let row = row_of (out-Node l.node).row in
    (map node_of l.out.items ++ typed_among l.search.offset l.search.item l.next row l.label left
    ≡ map node_of l.fn.out.items ++ typed_in l.search.offset l.search.item l.number (may_be_label l.fn.role) (node_view l.node))
    × (l.next + forest_size row left ≡ l.number + size_of (node_view l.node))
