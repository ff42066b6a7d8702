use Rattle.typing_state.specs.Goes.{Goes, OnlyFaults}
use Rattle.decl_typing.specs.Fresh.{has}
use Rattle.decl_typing.proofs.Labels.{SettlesFirstLabelNames}
use Rattle.decl_typing.proofs.decls.labels_are_new.Given as goal

abbrev pub invariant-loop-part : goal.invariant-loop-part
invariant-loop-part l = record {
  goes : Goes l.fn.at l.at;
  rest : OnlyFaults l.fn.at l.at;
  settles : SettlesFirstLabelNames l.fn.at l.at l.parts l.part-index (has l.seen);
}
