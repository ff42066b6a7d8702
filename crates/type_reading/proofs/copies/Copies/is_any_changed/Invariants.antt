use Rattle.std.proofs.Common.{◌≡◌, ℕ, drop}
use Rattle.std.specs.Prelude.{All}
use Rattle.type_nodes.specs.Nodes.{IsNode}
use Rattle.type_nodes.specs.Links.{root}
use Rattle.type_nodes.specs.Views.{numbers}
use Rattle.level_unify.specs.Copies.{table_of, image}
use Rattle.type_reading.proofs.copies.Copies.is_any_changed.Given as goal

abbrev pub invariant-loop-part : goal.invariant-loop-part
invariant-loop-part l = All (IsNode l.at.store.nodes) (numbers l.parts) →
    All (λ (p : ℕ). image l.at.store.nodes (table_of l.self.table) p ≡ root l.at.store.nodes p) (numbers (drop l.part-index l.parts)) →
    All (λ (p : ℕ). image l.at.store.nodes (table_of l.self.table) p ≡ root l.at.store.nodes p) (numbers l.parts)
