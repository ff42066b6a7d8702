use Rattle.std.proofs.Common.{◌≡◌, ◌++◌, map, drop}
use Rattle.query_model.specs.Outlines.{outline}
use Rattle.syntax_tree.specs.View.{node_view, trees_of}
use Rattle.text_queries.specs.Outlines.{member_of}
use Rattle.text_queries.proofs.outlines.outline.Given as goal

abbrev pub invariant-loop-item : goal.invariant-loop-item
invariant-loop-item l = map member_of l.out.items ++ outline (map (λ n. node_view n.value) (drop l.item-index l.tree.items.items)) ≡ outline (trees_of l.tree)
