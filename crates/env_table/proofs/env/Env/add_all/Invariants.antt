use Rattle.std.proofs.Common.{◌≡◌, ◌++◌, drop}
use Rattle.env_table.specs.Views.{newest_first}
use Rattle.env_table.proofs.env.Env.add_all.Given as goal

abbrev pub invariant-loop-entry : goal.invariant-loop-entry
invariant-loop-entry l = newest_first (drop l.entry-index l.entries) ++ l.env ≡ newest_first l.entries ++ l.self
