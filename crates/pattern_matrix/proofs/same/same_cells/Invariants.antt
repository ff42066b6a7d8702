use Rattle.std.proofs.Common.{◌≡◌, map, take}
use Rattle.pattern_matrix.specs.Views.{cell_view}
use Rattle.pattern_matrix.proofs.same.same_cells.Given as goal

abbrev pub invariant-loop-i : goal.invariant-loop-i
invariant-loop-i l = map cell_view (take l.i l.cells) ≡ map cell_view (take l.i l.others)
