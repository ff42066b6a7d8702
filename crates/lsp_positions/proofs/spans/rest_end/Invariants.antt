use Rattle.std.proofs.Common.{◌≡◌, ◌+◌, ◌≤◌, drop}
use Rattle.lsp_model.specs.Frames.{front_run}
use Rattle.lsp_model.specs.Positions.{continues}
use Rattle.lsp_positions.specs.Texts.{whole}
use Rattle.lsp_positions.proofs.spans.rest_end.Given as goal

abbrev pub invariant-loop-at : goal.invariant-loop-at
invariant-loop-at l = (l.start ≤ l.at) × (l.at + front_run continues (drop l.at (whole l.text)) ≡ l.start + front_run continues (drop l.start (whole l.text)))
