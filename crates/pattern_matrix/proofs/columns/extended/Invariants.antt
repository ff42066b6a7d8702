use Rattle.std.proofs.Common.{◌≡◌, ◌++◌, map, drop}
use Rattle.pattern_matrix.specs.Views.{typed_of, cells_view}
use Rattle.pattern_matrix.proofs.columns.extended.Given as goal

abbrev pub invariant-loop-pat : goal.invariant-loop-pat
invariant-loop-pat l = cells_view l.cells.items ++ map typed_of (drop l.pat-index l.pats) ≡ map typed_of l.pats
