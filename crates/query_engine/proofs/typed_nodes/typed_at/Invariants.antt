use Rattle.std.proofs.Common.{◌≡◌, ◌++◌, map, drop}
use Rattle.query_model.specs.TypedNodes.{typed_at, typed_items}
use Rattle.syntax_tree.specs.View.{node_view, trees_of}
use Rattle.query_engine.specs.Typed.{node_of}
use Rattle.query_engine.proofs.typed_nodes.typed_at.Given as goal

abbrev pub invariant-loop-item : goal.invariant-loop-item
invariant-loop-item l =
    (l.search.offset ≡ l.offset)
    × (map node_of l.out.items ++ typed_items l.offset l.search.item (map (λ n. node_view n.value) (drop l.item-index l.tree.items.items)) ≡ typed_at l.offset (trees_of l.tree))
