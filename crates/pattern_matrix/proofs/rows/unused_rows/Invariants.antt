use Rattle.pattern_matrix.specs.Rows.{AreUnused}
use Rattle.pattern_matrix.proofs.rows.unused_rows.Given as goal

abbrev pub invariant-loop-i : goal.invariant-loop-i
invariant-loop-i l = AreUnused l.matrix.rows.items l.i l.unused.items
