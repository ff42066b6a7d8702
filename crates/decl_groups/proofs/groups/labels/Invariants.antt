use Rattle.std.proofs.Common.{◌≡◌, ◌++◌, map, drop}
use Rattle.syntax_tree.specs.View.{node_view}
use Rattle.row_parts.specs.Numbered.{operand_view, operands_in}
use Rattle.decl_groups.specs.Written.{nodes_as, label_in, label_view}
use Rattle.decl_groups.proofs.groups.labels.Given as goal

abbrev pub invariant-loop-part : goal.invariant-loop-part
invariant-loop-part l = map label_view l.found.items ++ nodes_as label_in (map operand_view (drop l.part-index l.part-items)) ≡ nodes_as label_in (operands_in l.number (node_view l.node) 1)
