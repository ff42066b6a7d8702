use Rattle.tree_model.specs.Trees.{yield_of}
use Rattle.syntax_tree.specs.View.{node_view}
use Rattle.binding_steps.proofs.VariableLaws.{written_own}
use Rattle.binding_steps.proofs.variables.has_own_variables.Goals as goal

pub returns-then-own : goal.returns-then-own
returns-then-own c = written_own (yield_of (node_view c.args.item.now)) c.args.at.now.written (c.in_ok-own.ensures.0 c.if-own.true)
