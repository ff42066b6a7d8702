use Rattle.std.proofs.Common.{◌≡◌, ◌++◌, map, drop}
use Rattle.query_model.specs.Faults.{by_typer}
use Rattle.service_model.specs.Trials.{mark_of}
use Rattle.text_queries.specs.Faults.{fault_of, typer_fault_of}
use Rattle.text_changes.specs.Trials.{mark_in}
use Rattle.text_changes.proofs.trials.marks_of.Given as goal

abbrev pub invariant-loop-fault : goal.invariant-loop-fault
invariant-loop-fault l =
    map mark_in l.marks.items ++ map mark_of (map by_typer (map typer_fault_of (drop l.fault-index l.typed))) ≡ map mark_of (map fault_of l.parsed ++ map by_typer (map typer_fault_of l.typed))
