use Rattle.std.proofs.Common.{◌≡◌, drop, length, nat_lt}
use Rattle.std.specs.List.{list_all}
use Rattle.type_nodes.specs.Views.{numbers}
use Rattle.query_engine.proofs.types.are_nodes.Given as goal

abbrev pub invariant-loop-node : goal.invariant-loop-node
invariant-loop-node l = list_all (λ n. nat_lt n (length l.store.nodes)) (numbers (drop l.node-index l.nodes)) ≡ list_all (λ n. nat_lt n (length l.store.nodes)) (numbers l.nodes)
