use Rattle.std.proofs.Common.{◌≡◌, ◌++◌, map, drop}
use Rattle.json_lines.specs.Means.{fault_of}
use Rattle.lsp_answers.specs.Puts.{diagnostic_of}
use Rattle.lsp_positions.specs.Texts.{columns_in}
use Rattle.lsp_queries.specs.Diagnostics.{diagnostic_told}
use Rattle.lsp_queries.proofs.faults.diagnostics.Given as goal

abbrev pub invariant-loop-fault : goal.invariant-loop-fault
invariant-loop-fault g l =
    map diagnostic_of l.list.items ++ map (diagnostic_told (columns_in l.by) l.session.text) (map fault_of (drop l.fault-index l.faults)) ≡ map (diagnostic_told (columns_in l.by) l.session.text) (map fault_of l.faults)
