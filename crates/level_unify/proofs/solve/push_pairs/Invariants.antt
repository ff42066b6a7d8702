use Rattle.std.proofs.Common.{◌≡◌, ◌++◌, drop}
use Rattle.type_nodes.specs.Views.{numbers}
use Rattle.level_unify.specs.Solutions.{equations_of, paired}
use Rattle.level_unify.proofs.solve.push_pairs.Given as goal

abbrev pub invariant-loop-i : goal.invariant-loop-i
invariant-loop-i l = equations_of l.pairs.items ++ paired (numbers (drop l.i l.lefts)) (numbers (drop l.i l.rights)) ≡ equations_of l.fn.pairs.items ++ paired (numbers l.lefts) (numbers l.rights)
