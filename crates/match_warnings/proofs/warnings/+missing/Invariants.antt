use Rattle.std.proofs.Common.{◌≡◌, map, drop}
use Rattle.syntax_tree.specs.View.{forest_of, child_view, node_view}
use Rattle.match_warnings.specs.Reported.{lacks_part, some_lacking}
use Rattle.match_warnings.proofs.warnings.+missing.Given as goal

abbrev pub invariant-lacks_part-loop-child : goal.invariant-lacks_part-loop-child
invariant-lacks_part-loop-child l = some_lacking (forest_of (map child_view (drop l.child-index l.child-items))) ≡ lacks_part (node_view l.node)
