use Rattle.std.proofs.Common.{map, drop}
use Rattle.text_queries.specs.Faults.{fault_of, told_of}
use Rattle.text_queries.proofs.Orders.{IsPageFor}
use Rattle.text_queries.proofs.order.keep_parsed.Given as goal

abbrev pub invariant-loop-fault : goal.invariant-loop-fault
invariant-loop-fault l = IsPageFor (map told_of l.fn.page.items) (map fault_of l.faults) (map told_of l.page.items) (map fault_of (drop l.fault-index l.faults))
