use Rattle.std.proofs.Common.{◌≡◌, drop}
use Rattle.pattern_typing.specs.Matching.{binds_of}
use Rattle.binding_rows.specs.CaseScopes.{names_added}
use Rattle.binding_steps.proofs.parameters.with_names.Given as goal

abbrev pub invariant-loop-name : goal.invariant-loop-name
invariant-loop-name l = names_added (binds_of (drop l.name-index l.names)) l.inner ≡ names_added (binds_of l.names) l.env
