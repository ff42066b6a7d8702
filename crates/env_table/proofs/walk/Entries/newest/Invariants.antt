use Rattle.std.proofs.Common.{◌≡◌, length}
use Rattle.signature_model.specs.Lookups.{newest_by}
use Rattle.env_table.specs.Views.{names_of, is_named, kind_of}
use Rattle.env_table.proofs.walk.Entries.newest.Given as goal

abbrev pub invariant-loop-entry : goal.invariant-loop-entry
invariant-loop-entry l = newest_by (is_named (kind_of l.kind) l.name) (names_of l.rest) ≡ newest_by (is_named (kind_of l.kind) l.name) (names_of l.self)

abbrev pub decreases-loop-entry : goal.decreases-loop-entry
decreases-loop-entry l = length (names_of l.rest)
