use Rattle.typing_state.specs.Goes.{Goes}
use Rattle.signature_typing.proofs.clauses.behind_clauses.Given as goal

abbrev pub invariant-loop-clause : goal.invariant-loop-clause
invariant-loop-clause l = Goes l.fn.at l.at
