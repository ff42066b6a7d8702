use Rattle.std.proofs.Common.{◌++◌, List, map, drop}
use Rattle.type_terms.specs.Views.{path_of}
use Rattle.type_alternatives.specs.Alternatives.{Named, named_of, Pairwise, IsLabel}
use Rattle.type_alternatives.proofs.values.of_labels.Given as goal

abbrev pub invariant-loop-place : goal.invariant-loop-place
invariant-loop-place l =
    (rest : List Named) → Pairwise (IsLabel l.env (path_of l.origin)) l.place (drop l.place l.labels) rest
    → Pairwise (IsLabel l.env (path_of l.origin)) 0 l.labels (map named_of l.paths.items ++ rest)
