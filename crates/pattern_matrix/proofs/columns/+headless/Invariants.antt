use Rattle.std.proofs.Common.{◌++◌, map, drop}
use Rattle.pattern_matrix.specs.Lines.{listed, each_without_head}
use Rattle.pattern_matrix.specs.Search.{IsSqueezed}
use Rattle.pattern_matrix.specs.Views.{typed_of, cells_view, lines_view}
use Rattle.pattern_matrix.proofs.columns.+headless.Given as goal

abbrev pub invariant-put_each_headless-loop-pat : goal.invariant-put_each_headless-loop-pat
invariant-put_each_headless-loop-pat l =
    IsSqueezed (lines_view l.kept.items ++ each_without_head (listed (map typed_of (drop l.pat-index l.pats))) (cells_view l.rest))
    (lines_view l.fn.kept.items ++ each_without_head (listed (map typed_of l.pats)) (cells_view l.rest))
