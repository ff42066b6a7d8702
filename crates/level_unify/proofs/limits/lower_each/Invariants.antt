use Rattle.type_nodes.specs.States.{Keeps}
use Rattle.level_unify.specs.Solutions.{caps_of}
use Rattle.level_unify.specs.Limits.{AreLow, low_in, caps_in, CappedTo}
use Rattle.level_unify.proofs.limits.lower_each.Given as goal

abbrev pub invariant-loop-limit : goal.invariant-loop-limit
invariant-loop-limit l = CappedTo l.fn.store.nodes l.store.nodes (caps_in l.pass (caps_of l.limits)) l.limit-index × Keeps l.fn.store l.store × AreLow l.store.nodes l.low.level l.low.scope (low_in l.low)
