use Rattle.std.proofs.Common.{◌≡◌, ◌++◌, drop}
use Rattle.type_reading.specs.Copying.{paths_of}
use Rattle.module_steps.proofs.lists.add_origins.Given as goal

abbrev pub invariant-loop-origin : goal.invariant-loop-origin
invariant-loop-origin l = paths_of l.makes.items ++ paths_of (drop l.origin-index l.more) ≡ paths_of l.fn.makes.items ++ paths_of l.more
