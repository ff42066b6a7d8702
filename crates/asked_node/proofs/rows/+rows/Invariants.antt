use Rattle.std.proofs.Common.{◌≡◌, ◌++◌, map, drop}
use Rattle.syntax_tree.specs.Names.{row_of}
use Rattle.syntax_tree.specs.View.{child_view, forest_of, node_view}
use Rattle.syntax_tree.specs.declared.tree.Node.{out-Node}
use Rattle.asked_node.specs.Rows.{rows_view, rows_among, rows_of}
use Rattle.asked_node.proofs.rows.+rows.Given as goal

abbrev pub invariant-add_rows-loop-child : goal.invariant-add_rows-loop-child
invariant-add_rows-loop-child l =
    rows_view l.rows.items ++ rows_among (row_of (out-Node l.node).row) (forest_of (map child_view (drop l.child-index l.child-items))) ≡ rows_view l.fn.rows.items ++ rows_of (node_view l.node)
