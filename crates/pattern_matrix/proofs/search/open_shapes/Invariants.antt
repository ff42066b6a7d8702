use Rattle.std.proofs.Common.{◌≡◌, map}
use Rattle.pattern_matrix.specs.Lines.{open_shapes}
use Rattle.pattern_matrix.specs.Views.{shape_of}
use Rattle.pattern_matrix.proofs.search.open_shapes.Given as goal

abbrev pub invariant-loop : goal.invariant-loop
invariant-loop l = map shape_of l.shapes.items ≡ open_shapes l.counter
