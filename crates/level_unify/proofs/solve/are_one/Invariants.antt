use Rattle.std.proofs.Common.{drop}
use Rattle.type_nodes.specs.Views.{numbers}
use Rattle.level_unify.specs.Solutions.{AreOne, paired}
use Rattle.level_unify.proofs.solve.are_one.Given as goal

abbrev pub invariant-loop-i : goal.invariant-loop-i
invariant-loop-i l = AreOne l.store.nodes (paired (numbers (drop l.i l.lefts)) (numbers (drop l.i l.rights))) → AreOne l.store.nodes (paired (numbers l.lefts) (numbers l.rights))
