use Rattle.std.proofs.Common.{◌≡◌, ◌++◌, map, drop}
use Rattle.service_model.specs.Structure.{shown_fault}
use Rattle.text_queries.specs.Faults.{listed_of}
use Rattle.json_lines.specs.Means.{fault_of}
use Rattle.text_reading.proofs.structure.shown_faults.Given as goal

abbrev pub invariant-loop-fault : goal.invariant-loop-fault
invariant-loop-fault l = map fault_of l.shown.items ++ map (shown_fault l.store) (map listed_of (drop l.fault-index l.faults)) ≡ map (shown_fault l.store) (map listed_of l.faults)
