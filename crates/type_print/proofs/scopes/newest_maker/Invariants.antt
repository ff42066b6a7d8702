use Rattle.std.proofs.Common.{◌≡◌, length}
use Rattle.type_terms.specs.Views.{path_of}
use Rattle.signature_model.specs.Lookups.{newest_by}
use Rattle.env_table.specs.Views.{names_of}
use Rattle.type_print.specs.Paths.{gives_name}
use Rattle.type_print.specs.Scopes.{in_scope}
use Rattle.type_print.proofs.scopes.newest_maker.Given as goal

abbrev pub invariant-loop-entry : goal.invariant-loop-entry
invariant-loop-entry l =
    let test = gives_name (path_of l.origin) (in_scope l.scope) in
    newest_by test (names_of l.rest) ≡ newest_by test (in_scope l.scope)

abbrev pub decreases-loop-entry : goal.decreases-loop-entry
decreases-loop-entry l = length (names_of l.rest)
