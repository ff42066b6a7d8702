use Rattle.std.proofs.Common.{◌≡◌, drop}
use Rattle.std.specs.Option.{option_or}
use Rattle.type_expressions.specs.Items.{parameter_in}
use Rattle.type_expressions.proofs.types.parameter_named.Given as goal

abbrev pub invariant-loop-parameter : goal.invariant-loop-parameter
invariant-loop-parameter l = option_or (parameter_in l.name (drop l.parameter-index l.parameters)) l.found ≡ parameter_in l.name l.parameters
