-- What is known to be covered.
use Rattle.std.specs.Prelude.{List, [], ◌∷◌, None}
use Rattle.pattern_matrix.specs.Search.{Finds, Task, row_in}
use Rattle.pattern_matrix.specs.Views.{lines_view, cells_view}
use Rattle.pattern_matrix.specs.declared.known.Covered.{Covered}
use Rattle.pattern_matrix.specs.declared.known.Known.{Known}

-- the search that is known to find nothing: its lines and its row
abbrev pub covered_task : Covered → Task
covered_task c = row_in (lines_view c.lines.items) (cells_view c.row.items)

-- each of these searches finds nothing
abbrev pub AreCovered : List Covered → Type 0
AreCovered [] = Unit {0}
AreCovered (c ∷ cs) = Finds (covered_task c) None × AreCovered cs

-- for each of them nothing is found
abbrev pub IsKnown : Known → Type 0
IsKnown k = AreCovered k.covered.items
