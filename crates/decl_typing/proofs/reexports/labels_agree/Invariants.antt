use Rattle.typing_state.specs.Goes.{Goes}
use Rattle.decl_typing.proofs.reexports.labels_agree.Given as goal

abbrev pub invariant-loop-label : goal.invariant-loop-label
invariant-loop-label l = Goes l.fn.at l.at
