use Rattle.std.proofs.Common.{◌≡◌}
use Rattle.ml_lexer.specs.Places.{rest_of, test_of}
use Rattle.ml_lexer.specs.Scans.{run_end}
use Rattle.ml_lexer.proofs.rest.run.Given as goal

abbrev pub invariant-loop-i : goal.invariant-loop-i
invariant-loop-i l = run_end (test_of l.sort) l.from (rest_of l.text) ≡ run_end (test_of l.sort) l.i (rest_of l.text)
