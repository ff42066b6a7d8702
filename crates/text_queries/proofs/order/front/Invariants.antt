use Rattle.std.proofs.Common.{◌≡◌, ◌+◌, map, drop}
use Rattle.query_model.specs.Faults.{front}
use Rattle.text_queries.specs.Faults.{told_of}
use Rattle.text_queries.proofs.order.front.Given as goal

abbrev pub invariant-loop-other : goal.invariant-loop-other
invariant-loop-other l = (l.at ≡ l.other-index) × (l.at + front (told_of l.fault) (map told_of (drop l.other-index l.page)) ≡ front (told_of l.fault) (map told_of l.page))
