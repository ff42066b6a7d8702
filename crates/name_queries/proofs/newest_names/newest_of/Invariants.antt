use Rattle.std.proofs.Common.{◌++◌, length}
use Rattle.std.specs.List.{filter}
use Rattle.env_table.specs.Views.{names_of}
use Rattle.name_queries.specs.NewestNames.{begins_with, listed, AreKept, SameNewest}
use Rattle.name_queries.proofs.newest_names.newest_of.Given as goal

-- those that were kept and those that are left
abbrev pub invariant-loop-entry : goal.invariant-loop-entry
invariant-loop-entry l = AreKept l.newest.entries
    × SameNewest (listed l.newest.entries ++ filter (begins_with l.beginning) (names_of l.left)) (filter (begins_with l.beginning) (names_of l.fn.entries))

abbrev pub decreases-loop-entry : goal.decreases-loop-entry
decreases-loop-entry l = length (names_of l.left)
