use Rattle.std.proofs.Common.{◌≡◌, ◌++◌, drop}
use Rattle.pattern_matrix.specs.Views.{lines_view}
use Rattle.pattern_matrix.specs.Rows.{lines_of}
use Rattle.pattern_matrix.proofs.rows.lines_of.Given as goal

abbrev pub invariant-loop-row : goal.invariant-loop-row
invariant-loop-row l = lines_view l.lines.items ++ lines_of (drop l.row-index l.rows) ≡ lines_of l.rows
