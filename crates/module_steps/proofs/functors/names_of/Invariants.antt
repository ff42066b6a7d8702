use Rattle.std.proofs.Common.{◌≡◌, ◌++◌, drop}
use Rattle.module_steps.specs.Listed.{seen_values}
use Rattle.module_steps.specs.Modules.{named}
use Rattle.module_steps.proofs.functors.names_of.Given as goal

abbrev pub invariant-loop-parameter : goal.invariant-loop-parameter
invariant-loop-parameter l = seen_values l.names.items ++ named (drop l.parameter-index l.taken) ≡ named l.taken
