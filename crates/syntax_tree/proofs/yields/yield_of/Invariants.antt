use Rattle.std.proofs.Common.{◌≡◌, ◌++◌, map, drop}
use Rattle.syntax_tree.specs.View.{node_view, place_of, trees_of}
use Rattle.syntax_tree.specs.Yields.{place_of_tok, yields_of}
use Rattle.syntax_tree.proofs.yields.yield_of.Given as goal

abbrev pub invariant-loop-item : goal.invariant-loop-item
invariant-loop-item l =
    map place_of l.out.items ++ map place_of_tok (yields_of (map (λ n. node_view n.value) (drop l.item-index l.item-items)))
    ≡ map place_of_tok (yields_of (trees_of l.tree))
