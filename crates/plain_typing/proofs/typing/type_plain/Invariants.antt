use Rattle.std.proofs.Common.{◌≡◌, ◌++◌, ◌+◌, map, drop, option_map}
use Rattle.plain_model.specs.Plain as plain
use Rattle.syntax_tree.specs.View.{node_view, trees_of}
use Rattle.plain_typing.specs.View.{env_of, seen_of}
use Rattle.plain_typing.proofs.typing.type_plain.Given as goal

abbrev pub invariant-loop-item : goal.invariant-loop-item
invariant-loop-item l =
    let left = map (λ n. node_view n.value) (drop l.item-index l.tree.items.items) in
    (l.number ≡ l.item-index + 1)
    × (option_map (λ rest. map seen_of l.seen.items ++ rest) (plain.typed (env_of l.env.items) l.number left) ≡ plain.typed_trees (trees_of l.tree))
