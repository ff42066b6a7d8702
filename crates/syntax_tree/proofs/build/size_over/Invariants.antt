use Rattle.std.proofs.Common.{◌≡◌, ◌+◌, map, drop}
use Rattle.tree_model.specs.Extents.{told_sizes}
use Rattle.syntax_tree.specs.Names.{row_of}
use Rattle.syntax_tree.specs.View.{child_view, forest_of}
use Rattle.syntax_tree.proofs.build.size_over.Given as goal

abbrev pub invariant-loop-child : goal.invariant-loop-child
invariant-loop-child l = l.size + told_sizes (row_of l.row) (forest_of (map child_view (drop l.child-index l.children))) ≡ told_sizes (row_of l.row) (forest_of (map child_view l.children))
