use Rattle.std.proofs.Common.{◌≡◌, ◌+◌, ◌-◌, ◌*◌, ◌≤◌, drop}
use Rattle.lsp_model.specs.Positions.{columns_before}
use Rattle.lsp_positions.specs.Texts.{columns_in, whole}
use Rattle.lsp_positions.proofs.positions.columns_between.Given as goal

abbrev pub invariant-loop-at : goal.invariant-loop-at
invariant-loop-at l = (l.columns ≤ 4 * l.at) × (l.columns + columns_before (columns_in l.by) (l.end - l.at) (drop l.at (whole l.text)) ≡ columns_before (columns_in l.by) (l.end - l.start) (drop l.start (whole l.text)))
