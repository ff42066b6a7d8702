use Rattle.std.proofs.Common.{◌≡◌, ◌++◌, map, drop}
use Rattle.tree_model.specs.Trees.{yield_of, forest_yield}
use Rattle.syntax_tree.specs.View.{child_view, forest_of, node_view}
use Rattle.typing_model.specs.Items.{variables_written}
use Rattle.typing_model.specs.Modules.{once_each}
use Rattle.decl_typing.specs.Parameters.{token_names}
use Rattle.signature_typing.proofs.variables.+variables.Given as goal

abbrev pub invariant-add_variables-loop-child : goal.invariant-add_variables-loop-child
invariant-add_variables-loop-child l =
    token_names l.found.items ++ once_each (token_names l.found.items) (variables_written (forest_yield (forest_of (map child_view (drop l.child-index l.child-items))))) ≡ token_names l.fn.found.items ++ once_each (token_names l.fn.found.items) (variables_written (yield_of (node_view l.node)))
