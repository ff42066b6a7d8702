use Rattle.type_nodes.specs.States.{Keeps}
use Rattle.type_nodes.specs.Views.{numbers}
use Rattle.level_unify.specs.Generalising.{BoundTo}
use Rattle.level_unify.proofs.schemes.bind_found.Given as goal

abbrev pub invariant-loop-node : goal.invariant-loop-node
invariant-loop-node l = BoundTo l.fn.store.nodes l.store.nodes l.fn.root.0 l.fn.level (numbers l.found) l.node-index × Keeps l.fn.store l.store
