use Rattle.std.proofs.Common.{◌≡◌, ◌++◌, map, drop}
use Rattle.query_model.specs.Outlines.{names_in, pattern_names}
use Rattle.syntax_tree.specs.Names.{row_of}
use Rattle.syntax_tree.specs.View.{child_view, forest_of, node_view}
use Rattle.syntax_tree.specs.declared.tree.Node.{out-Node}
use Rattle.query_engine.specs.View.{names_of}
use Rattle.query_engine.proofs.names.+patterns.Given as goal

abbrev pub invariant-add_pattern_names-loop-child : goal.invariant-add_pattern_names-loop-child
invariant-add_pattern_names-loop-child l =
    let left = forest_of (map child_view (drop l.child-index l.child-items)) in
    names_of l.names.items ++ names_in (row_of (out-Node l.node).row) l.wanted left ≡ names_of l.fn.names.items ++ pattern_names (node_view l.node)
