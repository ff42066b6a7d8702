use Rattle.std.proofs.Common.{map, drop}
use Rattle.type_nodes.specs.Nodes.{bound_level}
use Rattle.typing_state.specs.Goes.{Goes, Silent}
use Rattle.binding_rows.specs.Scopes.{InsideNodes, NamesFirst}
use Rattle.binding_steps.specs.Bindings.{closing_of}
use Rattle.binding_steps.proofs.closing.limit_names.Given as goal

abbrev pub invariant-loop-one : goal.invariant-loop-one
invariant-loop-one l = record {
  goes : Goes l.fn.at l.at;
  silent : Silent l.fn.at l.at;
  inside : NamesFirst (InsideNodes l.fn.at l.at bound_level l.scope) (map closing_of l.bound) (map closing_of (drop l.one-index l.bound));
}
