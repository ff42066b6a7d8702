use Rattle.std.proofs.Common.{◌≡◌}
use Rattle.type_terms.specs.Views.{path_of}
use Rattle.type_print.specs.Paths.{way_among}
use Rattle.type_print.specs.Scopes.{scopes_of}
use Rattle.type_print.proofs.paths.search.Given as goal

abbrev pub invariant-loop : goal.invariant-loop
invariant-loop l =
    way_among (path_of l.origin) (scopes_of l.left.items) ≡ way_among (path_of l.origin) (scopes_of l.fn.left.items)
