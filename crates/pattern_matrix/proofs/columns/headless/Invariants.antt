use Rattle.std.proofs.Common.{◌++◌, drop}
use Rattle.pattern_matrix.specs.Lines.{headless}
use Rattle.pattern_matrix.specs.Search.{IsSqueezed}
use Rattle.pattern_matrix.specs.Views.{lines_view}
use Rattle.pattern_matrix.proofs.columns.headless.Given as goal

abbrev pub invariant-loop-line : goal.invariant-loop-line
invariant-loop-line l = IsSqueezed (lines_view l.kept.items ++ headless (lines_view (drop l.line-index l.lines))) (headless (lines_view l.lines))
