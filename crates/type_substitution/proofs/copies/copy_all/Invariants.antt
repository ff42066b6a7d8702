use Rattle.type_nodes.specs.States.{Keeps}
use Rattle.type_nodes.specs.Views.{numbers}
use Rattle.level_unify.specs.Copies.{Extends, table_of}
use Rattle.type_substitution.specs.Copying.{AreSubstituted}
use Rattle.type_substitution.proofs.Made.{CopiedTo}
use Rattle.type_substitution.proofs.copies.copy_all.Given as goal

abbrev pub invariant-loop-node : goal.invariant-loop-node
invariant-loop-node l = record {
  extends : Extends l.fn.store.nodes l.store.nodes;
  keeps : Keeps l.fn.store l.store;
  copies : AreSubstituted l.store.nodes (numbers l.variables) (numbers l.types) (table_of l.copies);
  done : CopiedTo (numbers l.found) (table_of l.copies) l.node-index;
}
