use Rattle.type_nodes.specs.States.{Keeps}
use Rattle.type_nodes.specs.Views.{numbers}
use Rattle.level_unify.specs.Limits.{Lowered}
use Rattle.level_unify.proofs.limits.lower_found.Given as goal

abbrev pub invariant-loop-node : goal.invariant-loop-node
invariant-loop-node l = Lowered l.fn.store.nodes l.store.nodes l.limit.level l.limit.scope l.limit.var.0 (numbers l.found) l.node-index × Keeps l.fn.store l.store
