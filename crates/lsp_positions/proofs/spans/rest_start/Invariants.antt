use Rattle.std.proofs.Common.{◌≡◌, ◌≤◌}
use Rattle.lsp_model.specs.Positions.{continues}
use Rattle.lsp_model.specs.Spans.{run_start}
use Rattle.lsp_positions.specs.Texts.{whole}
use Rattle.lsp_positions.proofs.spans.rest_start.Given as goal

abbrev pub invariant-loop-at : goal.invariant-loop-at
invariant-loop-at l = (l.at ≤ l.end) × (run_start continues (whole l.text) l.at ≡ run_start continues (whole l.text) l.end)

abbrev pub decreases-loop-at : goal.decreases-loop-at
decreases-loop-at l = l.at
