use Rattle.std.proofs.Common.{◌-◌, length, ap, ◌∙◌, refl}
use Rattle.pattern_matrix.specs.Views.{cells_view}
use Rattle.pattern_matrix.proofs.Squeezing.{squeeze-last}
use Rattle.pattern_matrix.proofs.columns.put.Goals as goal

pub returns-then-same_cells : goal.returns-then-same_cells
returns-then-same_cells c =
    let xs = c.deref.result.now in
    let last = c.in-Some-Alternative.last.now in
    let own = c.deref-in-Some-Alternative in
    let new = c.deref-in-Some-Alternative-2 in
    squeeze-last xs c.args.lines.now.items (length xs - 1) last (cells_view own.result.now) (cells_view c.args.cells.items)
    c.deref.ensures.value c.in-Some-Alternative.ensures.value (ap cells_view own.ensures.value)
    (c.if-same_cells.ensures refl ∙ ap cells_view new.ensures.value)
