use Rattle.std.proofs.Common.{◌≡◌, ◌++◌, [], List, length}
use Rattle.text_terms.specs.Bytes.{str_bytes}
use Rattle.signature_model.specs.Declarations.{Name}
use Rattle.env_table.specs.Views.{names_of}
use Rattle.type_print.specs.Paths.{among}
use Rattle.type_print.specs.Scopes.{has}
use Rattle.type_alternatives.specs.Levels.{level_of, modules_among}
use Rattle.type_alternatives.proofs.levels.add_modules.Given as goal

abbrev pub invariant-loop-entry : goal.invariant-loop-entry
invariant-loop-entry l =
    (seen : List Name) × ((n : Name) → has l.names n ≡ among n seen)
    × (level_of l.out.items ++ modules_among (str_bytes l.path) seen (names_of l.rest) ≡ level_of l.fn.out.items ++ modules_among (str_bytes l.path) [] (names_of l.fn.entries))

abbrev pub decreases-loop-entry : goal.decreases-loop-entry
decreases-loop-entry l = length (names_of l.rest)
