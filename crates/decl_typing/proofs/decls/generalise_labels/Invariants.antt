use Rattle.std.specs.Prelude.{take}
use Rattle.typing_state.specs.Goes.{Goes, OnlyStore}
use Rattle.decl_typing.specs.Parameters.{label_roots, ClosesRoots}
use Rattle.decl_typing.proofs.decls.generalise_labels.Given as goal

abbrev pub invariant-loop-label : goal.invariant-loop-label
invariant-loop-label l = record {
  goes : Goes l.fn.at l.at;
  rest : OnlyStore l.fn.at l.at;
  closes : ClosesRoots l.fn.at l.at (label_roots (take l.label-index l.labels));
}
