use Rattle.std.proofs.Common.{◌≡◌, map, drop, option_map}
use Rattle.tree_model.specs.Extents.{forest_span, joined}
use Rattle.syntax_tree.specs.View.{child_view, forest_of, place_of}
use Rattle.syntax_tree.proofs.build.tokens_span.Given as goal

abbrev pub invariant-loop-child : goal.invariant-loop-child
invariant-loop-child l = joined (option_map place_of l.span) (forest_span (forest_of (map child_view (drop l.child-index l.children)))) ≡ forest_span (forest_of (map child_view l.children))
