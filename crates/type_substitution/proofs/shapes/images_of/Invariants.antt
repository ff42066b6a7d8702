use Rattle.std.proofs.Common.{◌≡◌, ◌++◌, drop, map}
use Rattle.type_nodes.specs.Views.{numbers}
use Rattle.level_unify.specs.Copies.{table_of, image}
use Rattle.type_substitution.proofs.shapes.images_of.Given as goal

abbrev pub invariant-loop-node : goal.invariant-loop-node
invariant-loop-node l =
    numbers l.images.items ++ map (image l.store.nodes (table_of l.copies)) (numbers (drop l.node-index l.nodes)) ≡ map (image l.store.nodes (table_of l.copies)) (numbers l.nodes)
