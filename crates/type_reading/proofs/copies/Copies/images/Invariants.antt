use Rattle.std.proofs.Common.{◌≡◌, ◌++◌, drop, map}
use Rattle.std.specs.Prelude.{All}
use Rattle.type_nodes.specs.Nodes.{IsNode}
use Rattle.type_nodes.specs.Views.{numbers}
use Rattle.level_unify.specs.Copies.{table_of, image}
use Rattle.type_reading.proofs.copies.Copies.images.Given as goal

abbrev pub invariant-loop-part : goal.invariant-loop-part
invariant-loop-part l = All (IsNode l.at.store.nodes) (numbers l.parts) →
    numbers l.images.items ++ map (image l.at.store.nodes (table_of l.self.table)) (numbers (drop l.part-index l.parts)) ≡ map (image l.at.store.nodes (table_of l.self.table)) (numbers l.parts)
