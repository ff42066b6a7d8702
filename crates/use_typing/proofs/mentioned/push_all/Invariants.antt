use Rattle.std.proofs.Common.{◌≡◌, ◌++◌, drop}
use Rattle.use_typing.proofs.mentioned.push_all.Given as goal

abbrev pub invariant-loop-place : goal.invariant-loop-place
invariant-loop-place l = l.others.items ++ drop l.place l.tokens ≡ l.fn.others.items ++ drop l.before l.tokens
