use Rattle.std.proofs.Common.{◌≡◌, ◌++◌, map, drop}
use Rattle.tree_model.specs.Trees.{yield_of, forest_yield}
use Rattle.syntax_tree.specs.View.{child_view, forest_of, node_view, place_of}
use Rattle.syntax_tree.specs.Yields.{place_of_tok}
use Rattle.syntax_tree.proofs.yields.+yields.Given as goal

abbrev pub invariant-add_node-loop-child : goal.invariant-add_node-loop-child
invariant-add_node-loop-child l =
    map place_of l.out.items ++ map place_of_tok (forest_yield (forest_of (map child_view (drop l.child-index l.child-items))))
    ≡ map place_of l.fn.out.items ++ map place_of_tok (yield_of (node_view l.node))
