use Rattle.std.proofs.Common.{◌≡◌, ◌++◌, map, drop}
use Rattle.query_model.specs.Faults.{listed}
use Rattle.text_queries.specs.Faults.{told_of, listed_of}
use Rattle.text_queries.proofs.faults.listed_all.Given as goal

abbrev pub invariant-loop-fault : goal.invariant-loop-fault
invariant-loop-fault l = map listed_of l.list.items ++ map listed (map told_of (drop l.fault-index l.faults)) ≡ map listed (map told_of l.faults)
