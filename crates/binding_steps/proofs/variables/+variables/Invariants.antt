use Rattle.std.proofs.Common.{◌≡◌, ◌||◌, map, drop}
use Rattle.tree_model.specs.Trees.{yield_of, forest_yield}
use Rattle.syntax_tree.specs.View.{child_view, forest_of, node_view}
use Rattle.signature_model.specs.Declarations.{Name}
use Rattle.typing_model.specs.Records.{is_among}
use Rattle.typing_model.specs.Items.{variables_written}
use Rattle.binding_steps.specs.Variables.{has}
use Rattle.binding_steps.proofs.variables.+variables.Given as goal

abbrev pub invariant-add_node-loop-child : goal.invariant-add_node-loop-child
invariant-add_node-loop-child l =
    (q : Name) → (has l.names q || is_among q (variables_written (forest_yield (forest_of (map child_view (drop l.child-index l.child-items)))))) ≡ (has l.fn.names q || is_among q (variables_written (yield_of (node_view l.node))))
