use Rattle.typing_state.specs.Goes.{Goes, Silent}
use Rattle.type_reading.proofs.copies.Copies.close.Given as goal

abbrev pub invariant-loop : goal.invariant-loop
invariant-loop l = record { goes : Goes l.fn.at l.at; silent : Silent l.fn.at l.at }
