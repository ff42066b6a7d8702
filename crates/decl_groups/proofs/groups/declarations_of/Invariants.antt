use Rattle.std.proofs.Common.{◌≡◌, ◌++◌, map, drop}
use Rattle.syntax_tree.specs.View.{node_view}
use Rattle.row_parts.specs.Numbered.{operand_view, operands_in}
use Rattle.decl_groups.specs.Written.{nodes_as, declaration_in, declaration_view}
use Rattle.decl_groups.proofs.groups.declarations_of.Given as goal

abbrev pub invariant-loop-part : goal.invariant-loop-part
invariant-loop-part l = map declaration_view l.found.items ++ nodes_as declaration_in (map operand_view (drop l.part-index l.part-items)) ≡ nodes_as declaration_in (operands_in l.number (node_view l.item) 2)
