use Rattle.std.proofs.Common.{◌≡◌, ◌≤◌}
use Rattle.lsp_queries.specs.Prefixes.{name_start}
use Rattle.lsp_queries.proofs.prefix.name_start.Given as goal

abbrev pub invariant-loop-at : goal.invariant-loop-at
invariant-loop-at l = (l.at ≤ l.end) × (name_start l.text l.at ≡ name_start l.text l.end)

abbrev pub decreases-loop-at : goal.decreases-loop-at
decreases-loop-at l = l.at
