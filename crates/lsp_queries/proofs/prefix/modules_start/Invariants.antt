use Rattle.std.proofs.Common.{◌≡◌, ◌≤◌}
use Rattle.lsp_queries.specs.Prefixes.{modules_start}
use Rattle.lsp_queries.proofs.prefix.modules_start.Given as goal

abbrev pub invariant-loop-left : goal.invariant-loop-left
invariant-loop-left l = (l.at ≤ l.end) × (modules_start l.left l.text l.at ≡ modules_start l.end l.text l.end)

abbrev pub decreases-loop-left : goal.decreases-loop-left
decreases-loop-left l = l.left
