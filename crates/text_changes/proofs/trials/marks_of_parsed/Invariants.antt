use Rattle.std.proofs.Common.{◌≡◌, ◌++◌, map, drop}
use Rattle.service_model.specs.Trials.{mark_of}
use Rattle.text_queries.specs.Faults.{fault_of}
use Rattle.text_changes.specs.Trials.{mark_in}
use Rattle.text_changes.proofs.trials.marks_of_parsed.Given as goal

abbrev pub invariant-loop-fault : goal.invariant-loop-fault
invariant-loop-fault l = map mark_in l.marks.items ++ map mark_of (map fault_of (drop l.fault-index l.faults)) ≡ map mark_of (map fault_of l.faults)
