use Rattle.std.proofs.Common.{◌≡◌, ◌++◌, length}
use Rattle.prelude_places.specs.There.{values_of}
use Rattle.prelude_places.proofs.env_of.Given as goal

abbrev pub invariant-loop-one : goal.invariant-loop-one
invariant-loop-one l = values_of l.left.items ++ l.env ≡ values_of l.fn.entries.items

abbrev pub decreases-loop-one : goal.decreases-loop-one
decreases-loop-one l = length l.left.items
