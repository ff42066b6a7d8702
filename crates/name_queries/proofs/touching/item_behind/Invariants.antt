use Rattle.std.proofs.Common.{◌≡◌, map, drop}
use Rattle.query_model.specs.ScopeNodes.{item_behind}
use Rattle.syntax_tree.specs.View.{node_view, trees_of}
use Rattle.name_queries.proofs.touching.item_behind.Given as goal

abbrev pub invariant-loop-item : goal.invariant-loop-item
invariant-loop-item l = item_behind l.offset l.number (map (λ n. node_view n.value) (drop l.item-index l.tree.items.items)) ≡ item_behind l.offset 1 (trees_of l.tree)
