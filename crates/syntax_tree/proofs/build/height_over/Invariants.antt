use Rattle.std.proofs.Common.{◌≡◌, map, drop, max}
use Rattle.tree_model.specs.Extents.{told_heights}
use Rattle.syntax_tree.specs.View.{child_view, forest_of}
use Rattle.syntax_tree.proofs.build.height_over.Given as goal

abbrev pub invariant-loop-child : goal.invariant-loop-child
invariant-loop-child l = max l.height (told_heights (forest_of (map child_view (drop l.child-index l.children)))) ≡ told_heights (forest_of (map child_view l.children))
