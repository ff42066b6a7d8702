use Rattle.std.proofs.Common.{◌≡◌, ◌++◌, drop}
use Rattle.pattern_matrix.specs.Views.{lines_view}
use Rattle.pattern_matrix.specs.Rows.{near_lines}
use Rattle.pattern_matrix.proofs.rows.near_lines.Given as goal

abbrev pub invariant-loop-i : goal.invariant-loop-i
invariant-loop-i l = lines_view l.lines.items ++ near_lines l.place l.mark (drop l.i l.rows) ≡ near_lines l.place l.mark l.rows
