use Rattle.type_nodes.specs.Views.{numbers}
use Rattle.type_substitution.specs.Copying.{NoneBefore}
use Rattle.type_substitution.proofs.copies.place_of.Given as goal

abbrev pub invariant-loop-place : goal.invariant-loop-place
invariant-loop-place l = NoneBefore l.store.nodes (numbers l.variables) l.place l.root.0
