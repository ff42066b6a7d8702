use Rattle.std.proofs.Common.{◌≡◌, ◌+◌, drop}
use Rattle.lsp_model.specs.Positions.{line_place}
use Rattle.lsp_positions.specs.Texts.{whole}
use Rattle.lsp_positions.proofs.positions.line_start.Given as goal

abbrev pub invariant-loop-at : goal.invariant-loop-at
invariant-loop-at l = l.at + line_place l.left (drop l.at (whole l.text)) ≡ line_place l.fn.line (whole l.text)
