use Rattle.std.proofs.Common.{◌≡◌, ◌++◌, map, drop}
use Rattle.pattern_matrix.specs.Rows.{mark_of}
use Rattle.pattern_matrix.proofs.marks.marks_of.Given as goal

abbrev pub invariant-loop-row : goal.invariant-loop-row
invariant-loop-row l = l.marks.items ++ map (mark_of l.place) (drop l.row-index l.rows) ≡ map (mark_of l.place) l.rows
