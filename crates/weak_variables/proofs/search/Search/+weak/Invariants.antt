use Rattle.std.proofs.Common.{◌+◌, ◌*◌, length}
use Rattle.env_table.specs.Views.{names_of}
use Rattle.weak_variables.specs.Search.{ListsTo}
use Rattle.weak_variables.proofs.search.Search.+weak.Given as goal

abbrev pub decreases-entry : goal.decreases-entry
decreases-entry l = 3 * l.depth.0 + 1

abbrev pub decreases-module : goal.decreases-module
decreases-module l = 3 * l.depth.0

abbrev pub decreases-entries : goal.decreases-entries
decreases-entries l = 3 * l.depth.0 + 2

abbrev pub decreases-entries-loop-entry : goal.decreases-entries-loop-entry
decreases-entries-loop-entry l = length (names_of l.rest)

abbrev pub invariant-entries-loop-entry : goal.invariant-entries-loop-entry
invariant-entries-loop-entry l = ListsTo l.fn.self l.self
