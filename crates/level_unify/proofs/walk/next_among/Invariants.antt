use Rattle.std.specs.Prelude.{nat_eq}
use Rattle.std.specs.HashSet.{contains}
use Rattle.type_nodes.specs.Views.{numbers}
use Rattle.level_unify.specs.Walks.{AreDone}
use Rattle.level_unify.proofs.walk.next_among.Given as goal

abbrev pub invariant-loop-at : goal.invariant-loop-at
invariant-loop-at l = AreDone l.store.nodes (contains nat_eq l.done) (numbers l.parts) l.from l.at
