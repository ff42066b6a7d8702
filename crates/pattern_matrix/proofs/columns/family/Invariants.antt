use Rattle.std.proofs.Common.{◌≡◌, drop}
use Rattle.pattern_matrix.specs.Lines.{family}
use Rattle.pattern_matrix.specs.Views.{lines_view}
use Rattle.pattern_matrix.proofs.columns.family.Given as goal

abbrev pub invariant-loop-line : goal.invariant-loop-line
invariant-loop-line l = family (lines_view (drop l.line-index l.lines)) ≡ family (lines_view l.lines)
