use Rattle.std.proofs.Common.{◌≡◌, ◌+◌, ◌≤◌, drop}
use Rattle.lsp_model.specs.Positions.{column_place}
use Rattle.lsp_positions.specs.Texts.{columns_in, whole}
use Rattle.lsp_positions.proofs.positions.column_offset.Given as goal

abbrev pub invariant-loop-at : goal.invariant-loop-at
invariant-loop-at l = (l.start ≤ l.at) × (l.at + column_place (columns_in l.by) l.left (drop l.at (whole l.text)) ≡ l.start + column_place (columns_in l.by) l.fn.column (drop l.start (whole l.text)))
