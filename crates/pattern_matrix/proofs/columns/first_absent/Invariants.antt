use Rattle.std.proofs.Common.{◌≡◌, drop}
use Rattle.pattern_matrix.specs.Lines.{first_absent}
use Rattle.pattern_matrix.specs.Views.{members_of, lines_view}
use Rattle.pattern_matrix.proofs.columns.first_absent.Given as goal

abbrev pub invariant-loop-built : goal.invariant-loop-built
invariant-loop-built l = first_absent (members_of (drop l.built-index l.all)) (lines_view l.lines) ≡ first_absent (members_of l.all) (lines_view l.lines)
