use Rattle.std.proofs.Common.{◌≡◌, [], length}
use Rattle.typing_state.specs.Goes.{Goes}
use Rattle.sig_template.proofs.realising.Realised.close.Given as goal

abbrev pub invariant-loop-n : goal.invariant-loop-n
invariant-loop-n l = Goes l.fn.at l.at × (l.fn.self.opened.items ≡ [] → (l.self.opened.items ≡ []) × (l.at ≡ l.fn.at))

abbrev pub decreases-loop-n : goal.decreases-loop-n
decreases-loop-n l = length l.self.opened.items
