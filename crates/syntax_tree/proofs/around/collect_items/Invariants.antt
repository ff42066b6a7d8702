use Rattle.std.proofs.Common.{◌≡◌, ◌+◌, ◌++◌, map, drop}
use Rattle.tree_model.specs.Nodes.{items_holders, nodes_at}
use Rattle.tree_model.specs.Trees.{AreItemsSized}
use Rattle.syntax_tree.specs.View.{id_of, node_view, trees_of}
use Rattle.syntax_tree.proofs.around.collect_items.Given as goal

abbrev pub invariant-loop-item : goal.invariant-loop-item
invariant-loop-item l =
    let left = map (λ n. node_view n.value) (drop l.item-index l.tree.items.items) in
    AreItemsSized left
    × (l.number ≡ l.item-index + 1)
    × (map id_of l.out.items ++ items_holders l.offset l.number left ≡ nodes_at l.offset (trees_of l.tree))
