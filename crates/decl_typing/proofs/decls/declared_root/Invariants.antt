use Rattle.std.specs.Prelude.{◌≡◌, ◌++◌, drop}
use Rattle.decl_typing.proofs.decls.declared_root.Given as goal

abbrev pub invariant-loop-parameter : goal.invariant-loop-parameter
invariant-loop-parameter l = l.parts.items ++ drop l.parameter-index l.parameters ≡ l.parameters
