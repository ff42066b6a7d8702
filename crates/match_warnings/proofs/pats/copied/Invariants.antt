use Rattle.std.proofs.Common.{◌≡◌, ◌++◌, drop}
use Rattle.match_warnings.proofs.pats.copied.Given as goal

abbrev pub invariant-loop-step : goal.invariant-loop-step
invariant-loop-step l = l.copy.items ++ drop l.step-index l.path ≡ l.path
