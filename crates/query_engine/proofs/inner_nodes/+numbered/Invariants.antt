use Rattle.std.proofs.Common.{◌≡◌, ◌+◌, map, drop, option_map}
use Rattle.std.specs.Option.{option_or}
use Rattle.query_model.specs.Numbered.{numbered, numbered_among, HasNumbers}
use Rattle.tree_model.specs.Trees.{forest_size, size_of, AreSized}
use Rattle.syntax_tree.specs.Names.{row_of}
use Rattle.syntax_tree.specs.declared.tree.Node.{out-Node}
use Rattle.syntax_tree.specs.View.{child_view, forest_of, node_view}
use Rattle.query_engine.proofs.inner_nodes.+numbered.Given as goal

abbrev pub invariant-node_in-loop-child : goal.invariant-node_in-loop-child
invariant-node_in-loop-child l =
    let left = forest_of (map child_view (drop l.child-index l.child-items)) in
    HasNumbers l.own (node_view l.node) → AreSized left
    × (option_or (option_map (λ n. node_view n.now) l.found) (numbered_among l.wanted l.next (row_of (out-Node l.node).row) left) ≡ numbered l.wanted l.own (node_view l.node))
    × (l.next + forest_size (row_of (out-Node l.node).row) left ≡ l.own + size_of (node_view l.node))
