use Rattle.std.proofs.Common.{◌≡◌, ◌+◌, ◌++◌, map, drop}
use Rattle.query_model.specs.NameTokens.{names_among, names_in}
use Rattle.tree_model.specs.Trees.{forest_size, size_of}
use Rattle.syntax_tree.specs.Names.{row_of}
use Rattle.syntax_tree.specs.View.{child_view, forest_of, node_view}
use Rattle.syntax_tree.specs.declared.tree.Node.{out-Node}
use Rattle.name_queries.specs.NameTokens.{name_of}
use Rattle.name_queries.proofs.name_tokens.+name_tokens.Given as goal

abbrev pub invariant-add_names-loop-child : goal.invariant-add_names-loop-child
invariant-add_names-loop-child l =
    let left = forest_of (map child_view (drop l.child-index l.child-items)) in
    let row = row_of (out-Node l.node).row in
    (map name_of l.out.items ++ names_among l.id.item l.id.pre l.index l.next row l.sign left
    ≡ map name_of l.fn.out.items ++ names_in l.id.item l.id.pre (node_view l.node))
    × (l.next + forest_size row left ≡ l.id.pre + size_of (node_view l.node))
