use Rattle.std.proofs.Common.{◌≡◌, ◌++◌, [], List, length}
use Rattle.signature_model.specs.Declarations.{Name}
use Rattle.env_table.specs.Views.{names_of}
use Rattle.type_print.specs.Ways.{way_view}
use Rattle.type_print.specs.Paths.{among, modules_behind}
use Rattle.type_print.specs.Scopes.{scopes_of, has}
use Rattle.type_print.proofs.paths.add_modules.Given as goal

abbrev pub invariant-loop-entry : goal.invariant-loop-entry
invariant-loop-entry l =
    (seen : List Name) × ((n : Name) → has l.names n ≡ among n seen)
    × (scopes_of l.left.items ++ modules_behind (way_view l.way) seen (names_of l.rest) ≡ scopes_of l.fn.left.items ++ modules_behind (way_view l.way) [] (names_of l.fn.entries))

abbrev pub decreases-loop-entry : goal.decreases-loop-entry
decreases-loop-entry l = length (names_of l.rest)
