use Rattle.std.proofs.Common.{◌++◌, drop}
use Rattle.pattern_matrix.specs.Lines.{lines_under}
use Rattle.pattern_matrix.specs.Search.{IsSqueezed}
use Rattle.pattern_matrix.specs.Views.{lines_view, head_view}
use Rattle.pattern_matrix.proofs.columns.lines_under.Given as goal

abbrev pub invariant-loop-line : goal.invariant-loop-line
invariant-loop-line l =
    IsSqueezed (lines_view l.under.items ++ lines_under (head_view l.head) (lines_view (drop l.line-index l.lines))) (lines_under (head_view l.head) (lines_view l.lines))
