use Rattle.std.proofs.Common.{◌≡◌, ◌-◌, ◌+◌, take, drop}
use Rattle.ml_lexer.specs.Places.{rest_of}
use Rattle.ml_lexer.specs.Scans.{front_is}
use Rattle.ml_lexer.proofs.strings.is_repeated.Given as goal

abbrev pub invariant-loop-i : goal.invariant-loop-i
invariant-loop-i l = front_is (take (l.to - l.from) (drop l.from (rest_of l.text))) (drop l.at (rest_of l.text)) ≡ front_is (take (l.to - l.i) (drop l.i (rest_of l.text))) (drop (l.at + (l.i - l.from)) (rest_of l.text))
