use Rattle.std.proofs.Common.{◌≡◌, ◌-◌, take, drop}
use Rattle.ml_lexer.specs.Places.{rest_of}
use Rattle.ml_lexer.proofs.rest.copy.Given as goal

abbrev pub invariant-loop-i : goal.invariant-loop-i
invariant-loop-i l = l.bytes.items ≡ take (l.i - l.from) (drop l.from (rest_of l.text))
