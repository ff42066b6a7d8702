use Rattle.typing_state.specs.Goes.{Goes}
use Rattle.decl_typing.proofs.reexports.constructors_agree.Given as goal

abbrev pub invariant-loop-constructor : goal.invariant-loop-constructor
invariant-loop-constructor l = Goes l.fn.at l.at
