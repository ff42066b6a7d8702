use Rattle.std.proofs.Common.{◌≡◌, ◌++◌, drop}
use Rattle.type_alternatives.specs.Levels.{level_of, next_level}
use Rattle.type_alternatives.proofs.levels.next_level.Given as goal

abbrev pub invariant-loop-inside : goal.invariant-loop-inside
invariant-loop-inside l = level_of l.next.items ++ next_level (level_of (drop l.inside-index l.level)) ≡ next_level (level_of l.level)
