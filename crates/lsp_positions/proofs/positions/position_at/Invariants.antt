use Rattle.std.proofs.Common.{◌≡◌, ◌-◌, ◌*◌, ◌≤◌, drop}
use Rattle.lsp_model.specs.Positions.{position_from}
use Rattle.lsp_positions.specs.Texts.{columns_in, whole}
use Rattle.lsp_positions.proofs.positions.position_at.Given as goal

abbrev pub invariant-loop-at : goal.invariant-loop-at
invariant-loop-at l = (l.line ≤ l.at) × (l.column ≤ 4 * l.at) × (position_from (columns_in l.by) l.line l.column (l.offset - l.at) (drop l.at (whole l.text)) ≡ position_from (columns_in l.by) 0 0 l.offset (whole l.text))
