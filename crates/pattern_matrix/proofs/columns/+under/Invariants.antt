use Rattle.std.proofs.Common.{◌++◌, map, drop}
use Rattle.pattern_matrix.specs.Lines.{listed, under_each}
use Rattle.pattern_matrix.specs.Search.{IsSqueezed}
use Rattle.pattern_matrix.specs.Views.{typed_of, cells_view, lines_view, head_view}
use Rattle.pattern_matrix.proofs.columns.+under.Given as goal

abbrev pub invariant-put_each_under-loop-pat : goal.invariant-put_each_under-loop-pat
invariant-put_each_under-loop-pat l =
    IsSqueezed (lines_view l.lines.items ++ under_each (head_view l.head) (listed (map typed_of (drop l.pat-index l.pats))) (cells_view l.rest))
    (lines_view l.fn.lines.items ++ under_each (head_view l.head) (listed (map typed_of l.pats)) (cells_view l.rest))
