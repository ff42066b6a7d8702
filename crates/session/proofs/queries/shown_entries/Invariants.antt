use Rattle.std.proofs.Common.{◌≡◌, ◌++◌, map, drop}
use Rattle.json_lines.specs.Means.{entry_of}
use Rattle.session.specs.Queries.{said_entry}
use Rattle.session.proofs.queries.shown_entries.Given as goal

abbrev pub invariant-loop-entry : goal.invariant-loop-entry
invariant-loop-entry l = map entry_of l.shown.items ++ map said_entry (drop l.entry-index l.entries) ≡ map said_entry l.entries
