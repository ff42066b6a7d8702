use Rattle.std.proofs.Common.{◌≡◌, drop, false}
use Rattle.ml_lexer.specs.Places.{rest_of}
use Rattle.ml_lexer.specs.Scans.{string_end}
use Rattle.ml_lexer.proofs.strings.string_end.Given as goal

abbrev pub invariant-loop-i : goal.invariant-loop-i
invariant-loop-i l = string_end false l.from (drop l.from (rest_of l.text)) ≡ string_end l.escaped l.i (drop l.i (rest_of l.text))
