use Rattle.std.proofs.Common.{◌++◌, List, map, drop}
use Rattle.type_terms.specs.Views.{path_of}
use Rattle.type_alternatives.specs.Alternatives.{Outermost, outermost_of, Pairwise, IsConstructor}
use Rattle.type_alternatives.proofs.values.of_constructors.Given as goal

abbrev pub invariant-loop-place : goal.invariant-loop-place
invariant-loop-place l =
    (rest : List Outermost) → Pairwise (IsConstructor l.store.nodes l.env (path_of l.origin)) l.place (drop l.place l.constructors) rest
    → Pairwise (IsConstructor l.store.nodes l.env (path_of l.origin)) 0 l.constructors (map outermost_of l.list.items ++ rest)
