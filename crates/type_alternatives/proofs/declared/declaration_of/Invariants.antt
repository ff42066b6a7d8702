use Rattle.std.proofs.Common.{◌≡◌, Some, option_map}
use Rattle.type_terms.specs.Views.{path_of}
use Rattle.env_table.specs.declared.entries.Entry.{Entry}
use Rattle.env_table.specs.declared.entries.Declaration.{Declaration}
use Rattle.type_alternatives.specs.Standing.{Stands, StandsInAny, declaration_in, lists_of, lists_weight}
use Rattle.type_alternatives.proofs.declared.declaration_of.Given as goal

abbrev pub invariant-loop-entries : goal.invariant-loop-entries
invariant-loop-entries l =
    ((e : Entry) → StandsInAny e (lists_of l.left.items) → Stands e l.env)
    × ((e : Entry) (d : Declaration) → Stands e l.env → declaration_in e ≡ Some d → option_map path_of d.origin ≡ Some (path_of l.origin) → StandsInAny e (lists_of l.left.items))

abbrev pub decreases-loop-entries : goal.decreases-loop-entries
decreases-loop-entries l = lists_weight (lists_of l.left.items)
