use Rattle.std.proofs.Common.{◌+◌, ◌*◌, drop}
use Rattle.prelude_places.specs.There.{values_of}
use Rattle.prelude_places.proofs.Making.{Onto}
use Rattle.prelude_places.proofs.+there.Given as goal

abbrev pub decreases-what : goal.decreases-what
decreases-what l = 3 * l.depth.0

abbrev pub decreases-entry : goal.decreases-entry
decreases-entry l = 3 * l.depth.0 + 1

abbrev pub decreases-entries : goal.decreases-entries
decreases-entries l = 3 * l.depth.0 + 2

abbrev pub decreases-sig : goal.decreases-sig
decreases-sig l = 3 * l.depth.0

abbrev pub decreases-template : goal.decreases-template
decreases-template l = 3 * l.depth.0

abbrev pub invariant-entries-loop-one : goal.invariant-entries-loop-one
invariant-entries-loop-one l = Onto (values_of l.old) (values_of (drop l.one-index l.old)) l.new.items
