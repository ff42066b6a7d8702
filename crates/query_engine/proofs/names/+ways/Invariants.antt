use Rattle.std.proofs.Common.{◌≡◌, ◌++◌, map, drop}
use Rattle.query_model.specs.Outlines.{names_among, names_under}
use Rattle.syntax_tree.specs.View.{child_view, forest_of, node_view}
use Rattle.query_engine.specs.View.{names_of}
use Rattle.query_engine.proofs.names.+ways.Given as goal

abbrev pub invariant-add_names_under-loop-child : goal.invariant-add_names_under-loop-child
invariant-add_names_under-loop-child l =
    let left = forest_of (map child_view (drop l.child-index l.child-items)) in
    names_of l.names.items ++ names_among l.way left ≡ names_of l.fn.names.items ++ names_under l.way (node_view l.node)
