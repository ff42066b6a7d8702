use Rattle.std.proofs.Common.{◌≡◌, length}
use Rattle.env_table.specs.Views.{names_of}
use Rattle.signature_match.specs.Newest.{first_exception, newest_exception}
use Rattle.signature_match.proofs.matching.newest_exception.Given as goal

abbrev pub invariant-loop-entry : goal.invariant-loop-entry
invariant-loop-entry l = first_exception l.name (names_of l.rest) ≡ newest_exception l.name l.actual

abbrev pub decreases-loop-entry : goal.decreases-loop-entry
decreases-loop-entry l = length (names_of l.rest)
