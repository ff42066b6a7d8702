use Rattle.std.proofs.Common.{◌≡◌, ◌<◌, ℕ, None}
use Rattle.type_terms.specs.Views.{path_of}
use Rattle.env_table.specs.Views.{kind_of}
use Rattle.type_print.proofs.Levels.{level}
use Rattle.type_alternatives.specs.Levels.{level_of, finds, level_weight}
use Rattle.type_alternatives.proofs.Shortest.{shown, first_way}
use Rattle.type_alternatives.proofs.reached.path_to.Given as goal

abbrev pub invariant-loop-alloc : goal.invariant-loop-alloc
invariant-loop-alloc l =
    (k : ℕ) × (level_of l.level.items ≡ shown (level l.env k))
    × ((j : ℕ) → j < k → first_way (finds (kind_of l.fn.wanted.kind) l.fn.wanted.name.now l.fn.wanted.place (path_of l.fn.wanted.origin.now)) (level l.env j) ≡ None) × (l.wanted ≡ l.fn.wanted)

abbrev pub decreases-loop-alloc : goal.decreases-loop-alloc
decreases-loop-alloc l = level_weight (level_of l.level.items)
