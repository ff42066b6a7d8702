use Rattle.std.proofs.Common.{map, sym, subst}
use Rattle.type_nodes.specs.States.{state, IsStore}
use Rattle.type_nodes.specs.Views.{node_of, change_of}
use Rattle.type_nodes.proofs.Trails.{empty_store}
use Rattle.type_nodes.proofs.store.Store.new.Goals as goal

pub invariant_of-result : goal.invariant_of-result
invariant_of-result c = subst IsStore (λ i. state (map node_of (sym c.new.ensures.items i)) (map change_of (sym c.new-2.ensures i))) empty_store
