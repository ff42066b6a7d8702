use Rattle.std.proofs.Common.{◌≡◌, map, ◌++◌}
use Rattle.syntax_tree.specs.View.{child_view}
use Rattle.parse_frames.specs.View.{parts_view}
use Rattle.parse_frames.proofs.nodes.children_of.Given as goal

abbrev pub invariant-loop-rest : goal.invariant-loop-rest
invariant-loop-rest l = map child_view l.children.items ++ parts_view l.rest ≡ parts_view l.parts
