use Rattle.std.proofs.Common.{◌≡◌, map, drop}
use Rattle.query_model.specs.TypedNodes.{has_taken_in}
use Rattle.syntax_tree.specs.View.{child_view, forest_of}
use Rattle.query_engine.proofs.typed_nodes.has_taken_in.Given as goal

abbrev pub invariant-loop-child : goal.invariant-loop-child
invariant-loop-child l = has_taken_in l.wanted (forest_of (map child_view (drop l.child-index l.children))) ≡ has_taken_in l.wanted (forest_of (map child_view l.children))
