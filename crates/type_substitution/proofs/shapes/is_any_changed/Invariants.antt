use Rattle.std.proofs.Common.{◌≡◌, ℕ, drop}
use Rattle.std.specs.Prelude.{All}
use Rattle.type_nodes.specs.Links.{root}
use Rattle.type_nodes.specs.Views.{numbers}
use Rattle.level_unify.specs.Copies.{table_of, image}
use Rattle.type_substitution.proofs.shapes.is_any_changed.Given as goal

abbrev pub invariant-loop-node : goal.invariant-loop-node
invariant-loop-node l =
    All (λ (p : ℕ). image l.store.nodes (table_of l.copies) p ≡ root l.store.nodes p) (numbers (drop l.node-index l.nodes)) →
    All (λ (p : ℕ). image l.store.nodes (table_of l.copies) p ≡ root l.store.nodes p) (numbers l.nodes)
