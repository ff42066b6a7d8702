use Rattle.std.proofs.Common.{map, drop}
use Rattle.query_model.specs.Faults.{by_typer}
use Rattle.text_queries.specs.Faults.{told_of, typer_fault_of}
use Rattle.text_queries.proofs.Orders.{IsPageFor}
use Rattle.text_queries.proofs.order.keep_typed.Given as goal

abbrev pub invariant-loop-fault : goal.invariant-loop-fault
invariant-loop-fault l = IsPageFor (map told_of l.fn.page.items) (map by_typer (map typer_fault_of l.faults)) (map told_of l.page.items) (map by_typer (map typer_fault_of (drop l.fault-index l.faults)))
