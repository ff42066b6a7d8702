use Rattle.std.proofs.Common.{◌≡◌, map, drop, option_map}
use Rattle.std.specs.Option.{option_or}
use Rattle.query_model.specs.Touching.{touched_at, touched_items}
use Rattle.syntax_tree.specs.View.{id_of, node_view, trees_of}
use Rattle.name_queries.proofs.touching.touched_at.Given as goal

abbrev pub invariant-loop-node : goal.invariant-loop-node
invariant-loop-node l = option_or (touched_items l.offset l.item (map (λ n. node_view n.value) (drop l.node-index l.tree.items.items))) (option_map id_of l.last) ≡ touched_at l.offset (trees_of l.tree)
