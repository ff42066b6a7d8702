use Rattle.std.specs.HashMap.{keys}
use Rattle.binding_steps.proofs.VariableLaws.{InFirst}
use Rattle.binding_steps.proofs.variables.are_own.Given as goal

abbrev pub invariant-loop-name : goal.invariant-loop-name
invariant-loop-name l = InFirst l.names (keys l.variables) l.name-iterator
