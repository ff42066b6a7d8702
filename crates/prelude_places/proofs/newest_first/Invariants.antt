use Rattle.std.proofs.Common.{length}
use Rattle.env_table.specs.Views.{names_of}
use Rattle.prelude_places.proofs.Making.{Onto}
use Rattle.prelude_places.proofs.newest_first.Given as goal

abbrev pub invariant-loop-one : goal.invariant-loop-one
invariant-loop-one l = Onto l.env (names_of l.rest) l.new.items

abbrev pub decreases-loop-one : goal.decreases-loop-one
decreases-loop-one l = length (names_of l.rest)
