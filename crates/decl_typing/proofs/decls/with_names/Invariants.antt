use Rattle.std.proofs.Common.{List, drop}
use Rattle.env_table.specs.declared.entries.Entry.{Entry}
use Rattle.decl_typing.specs.Entries.{EntersNames}
use Rattle.decl_typing.proofs.decls.with_names.Given as goal

-- what the names that are left enter, all do
abbrev pub invariant-loop-place : goal.invariant-loop-place
invariant-loop-place l = (after : List Entry) → EntersNames (drop l.place l.parts) (drop l.place l.declared) l.inner after → EntersNames l.parts l.declared l.fn.env after
