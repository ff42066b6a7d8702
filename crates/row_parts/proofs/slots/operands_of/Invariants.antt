use Rattle.std.proofs.Common.{◌≡◌, ◌++◌, map, drop}
use Rattle.syntax_tree.specs.Names.{row_of}
use Rattle.syntax_tree.specs.View.{child_view, forest_of, node_view}
use Rattle.syntax_tree.specs.declared.tree.Node.{out-Node}
use Rattle.row_parts.specs.Numbered.{all_operands, operand_view, operands_from, in_slots}
use Rattle.row_parts.proofs.slots.operands_of.Given as goal

abbrev pub invariant-loop-child : goal.invariant-loop-child
invariant-loop-child l =
    let left = operands_from l.next (row_of (out-Node l.node).row) (forest_of (map child_view (drop l.child-index l.child-items))) in
    map operand_view l.found.items ++ in_slots left ≡ all_operands l.number (node_view l.node)
