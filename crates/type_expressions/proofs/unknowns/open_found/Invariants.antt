use Rattle.type_nodes.specs.Views.{numbers}
use Rattle.typing_state.specs.Goes.{Goes, OnlyStore}
use Rattle.declared_rows.specs.Unknowns.{OpensTo}
use Rattle.type_expressions.proofs.unknowns.open_found.Given as goal

abbrev pub invariant-loop-node : goal.invariant-loop-node
invariant-loop-node l = record {
  opens : OpensTo l.fn.at.store.nodes l.at.store.nodes l.fn.ty.0 (numbers l.parameters) (numbers l.found) l.node-index;
  rest : OnlyStore l.fn.at l.at;
  goes : Goes l.fn.at l.at;
}
