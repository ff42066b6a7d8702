use Rattle.std.proofs.Common.{◌≤◌}
use Rattle.syntax_tree.specs.Tallies.{Grows}
use Rattle.run_check.proofs.Comparing.{Compared}
use Rattle.run_check.proofs.checking.check_run.Given as goal

abbrev pub invariant-loop-at : goal.invariant-loop-at
invariant-loop-at g l = (l.start ≤ l.at) × Grows (g.C.Counts.tallies l.fn.counts) (g.C.Counts.tallies l.counts) × Compared l.input l.output l.start l.at l.session.text l.left
