use Rattle.std.proofs.Common.{◌+◌, ◌*◌, length}
use Rattle.env_table.specs.Views.{names_of}
use Rattle.type_reading.proofs.owners.+owners.Given as goal

abbrev pub decreases-owner_behind : goal.decreases-owner_behind
decreases-owner_behind l = 2 * l.depth.0

abbrev pub decreases-owner_among : goal.decreases-owner_among
decreases-owner_among l = 2 * l.depth.0 + 1

abbrev pub decreases-owner_among-loop-entry : goal.decreases-owner_among-loop-entry
decreases-owner_among-loop-entry l = length (names_of l.rest)
