use Rattle.std.proofs.Common.{◌≡◌, map, take}
use Rattle.pattern_matrix.specs.Views.{line_view}
use Rattle.pattern_matrix.proofs.same.same_lines.Given as goal

abbrev pub invariant-loop-i : goal.invariant-loop-i
invariant-loop-i l = map line_view (take l.i l.lines) ≡ map line_view (take l.i l.others)
