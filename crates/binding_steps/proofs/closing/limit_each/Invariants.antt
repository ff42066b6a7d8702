use Rattle.std.proofs.Common.{drop}
use Rattle.type_nodes.specs.Nodes.{bound_level}
use Rattle.typing_state.specs.Goes.{Goes, Silent}
use Rattle.binding_rows.specs.Scopes.{InsideNodes}
use Rattle.binding_steps.specs.Bindings.{name_nodes}
use Rattle.binding_steps.proofs.ClosingLaws.{NamesDone}
use Rattle.binding_steps.proofs.closing.limit_each.Given as goal

abbrev pub invariant-loop-name : goal.invariant-loop-name
invariant-loop-name l = record {
  goes : Goes l.fn.at l.at;
  silent : Silent l.fn.at l.at;
  inside : NamesDone (InsideNodes l.fn.at l.at bound_level l.scope) (name_nodes (drop l.name-index l.names)) (name_nodes l.names);
}
