use Rattle.typing_state.specs.Goes.{Goes}
use Rattle.signature_match.proofs.compare.rigid_arguments.Given as goal

abbrev pub invariant-loop : goal.invariant-loop
invariant-loop l = Goes l.fn.at l.at
