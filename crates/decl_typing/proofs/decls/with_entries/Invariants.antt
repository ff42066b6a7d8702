use Rattle.std.proofs.Common.{◌≡◌, ◌++◌, reverse, drop}
use Rattle.decl_typing.specs.Entries.{values_of}
use Rattle.decl_typing.proofs.decls.with_entries.Given as goal

-- those that are left, before the names so far, are all
abbrev pub invariant-loop-entry : goal.invariant-loop-entry
invariant-loop-entry l = reverse (values_of (drop l.entry-index l.entries)) ++ l.inner ≡ reverse (values_of l.entries) ++ l.fn.env
