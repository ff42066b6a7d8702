use Rattle.std.specs.Prelude.{nat_eq}
use Rattle.std.specs.HashSet.{contains}
use Rattle.level_unify.specs.Walks.{course_of}
use Rattle.level_unify.proofs.Walking.{Walking, left_of}
use Rattle.level_unify.proofs.walk.reached_beyond.Given as goal

abbrev pub invariant-loop-visit : goal.invariant-loop-visit
invariant-loop-visit l = Walking l.store.nodes (contains nat_eq l.fn.done) l.fn.from.0 (course_of l.done l.walk)

abbrev pub decreases-loop-visit : goal.decreases-loop-visit
decreases-loop-visit l = left_of l.store.nodes (course_of l.done l.walk)
