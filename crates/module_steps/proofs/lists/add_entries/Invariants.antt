use Rattle.std.proofs.Common.{◌≡◌, ◌++◌, drop}
use Rattle.sig_template.specs.Structures.{entries_of}
use Rattle.module_steps.proofs.lists.add_entries.Given as goal

abbrev pub invariant-loop-entry : goal.invariant-loop-entry
invariant-loop-entry l = entries_of l.list.items ++ entries_of (drop l.entry-index l.entries) ≡ entries_of l.fn.list.items ++ entries_of l.entries
