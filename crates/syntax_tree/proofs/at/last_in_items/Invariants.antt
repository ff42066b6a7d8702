use Rattle.std.proofs.Common.{◌≡◌, ◌+◌, map, drop, option_map}
use Rattle.std.specs.Option.{option_or}
use Rattle.tree_model.specs.Lasts.{last_id}
use Rattle.tree_model.specs.Trees.{AreItemsSized}
use Rattle.syntax_tree.specs.View.{id_of, node_view, trees_of}
use Rattle.syntax_tree.proofs.at.last_in_items.Given as goal

abbrev pub invariant-loop-item : goal.invariant-loop-item
invariant-loop-item l =
    let left = map (λ n. node_view n.value) (drop l.item-index l.tree.items.items) in
    AreItemsSized left
    × (l.number ≡ l.item-index + 1)
    × (option_or (last_id l.offset l.number left) (option_map id_of l.last) ≡ last_id l.offset 1 (trees_of l.tree))
