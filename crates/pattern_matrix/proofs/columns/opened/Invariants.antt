use Rattle.std.proofs.Common.{◌≡◌}
use Rattle.pattern_matrix.specs.Lines.{opened}
use Rattle.pattern_matrix.specs.Views.{cells_view}
use Rattle.pattern_matrix.proofs.columns.opened.Given as goal

abbrev pub invariant-loop : goal.invariant-loop
invariant-loop l = cells_view l.cells.items ≡ opened l.counter
