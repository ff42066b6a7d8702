use Rattle.std.proofs.Common.{◌≡◌, ◌+◌, map, drop, option_map}
use Rattle.std.specs.Option.{option_or}
use Rattle.query_model.specs.Touching.{touched, touched_among}
use Rattle.tree_model.specs.Trees.{forest_size, size_of}
use Rattle.syntax_tree.specs.Names.{row_of}
use Rattle.syntax_tree.specs.View.{child_view, forest_of, id_of, node_view}
use Rattle.syntax_tree.specs.declared.tree.Node.{out-Node}
use Rattle.name_queries.proofs.touching.+touching.Given as goal

abbrev pub invariant-keep_node-loop-child : goal.invariant-keep_node-loop-child
invariant-keep_node-loop-child l =
    let left = forest_of (map child_view (drop l.child-index l.child-items)) in
    let row = row_of (out-Node l.node).row in
    (option_or (touched_among l.offset l.at.item l.pre row left) (option_map id_of l.last) ≡ option_or (touched l.offset l.at.item l.at.pre (node_view l.node)) (option_map id_of l.fn.last))
    × (l.pre + forest_size row left ≡ l.at.pre + size_of (node_view l.node))
