use Rattle.type_nodes.specs.States.{Keeps}
use Rattle.type_nodes.specs.Views.{numbers}
use Rattle.level_unify.specs.Copies.{CopiedTo, fresh_node, table_of}
use Rattle.level_unify.proofs.copies.copy_all.Given as goal

abbrev pub invariant-loop-node : goal.invariant-loop-node
invariant-loop-node l = CopiedTo l.fn.store.nodes l.store.nodes (fresh_node l.fresh) (numbers l.found) (table_of l.copies) l.node-index × Keeps l.fn.store l.store
