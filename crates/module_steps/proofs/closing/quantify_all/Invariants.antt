use Rattle.typing_state.specs.Goes.{Goes, OnlyStore}
use Rattle.module_steps.proofs.closing.quantify_all.Given as goal

abbrev pub invariant-loop-n : goal.invariant-loop-n
invariant-loop-n l = record {
  rest : OnlyStore l.fn.at l.at;
  goes : Goes l.fn.at l.at;
}
