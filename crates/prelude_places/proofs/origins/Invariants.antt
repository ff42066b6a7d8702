use Rattle.std.proofs.Common.{◌≡◌, ◌++◌, map, drop}
use Rattle.type_terms.specs.Views.{path_of}
use Rattle.prelude_places.proofs.origins.Given as goal

abbrev pub invariant-loop-origin : goal.invariant-loop-origin
invariant-loop-origin l = map path_of l.new.items ++ map path_of (drop l.origin-index l.old) ≡ map path_of l.old
