use Rattle.std.proofs.Common.{map, drop}
use Rattle.typing_state.specs.Goes.{Goes, Silent}
use Rattle.binding_steps.specs.Bindings.{closing_of}
use Rattle.binding_steps.proofs.ClosingLaws.{HoldsFirst}
use Rattle.binding_steps.proofs.closing.hold_all.Given as goal

abbrev pub invariant-loop-one : goal.invariant-loop-one
invariant-loop-one l = record {
  goes : Goes l.fn.at l.at;
  silent : Silent l.fn.at l.at;
  limits : HoldsFirst l.fn.at l.at l.level (map closing_of l.bound) (map closing_of (drop l.one-index l.bound));
}
