use Rattle.std.proofs.Common.{◌≡◌, map, drop}
use Rattle.type_model.specs.Types.{types_of}
use Rattle.type_terms.specs.Views.{type_of}
use Rattle.type_terms.specs.Same.{same_all}
use Rattle.type_terms.proofs.sameness.+same.Given as goal

abbrev pub invariant-are_same-loop-i : goal.invariant-are_same-loop-i
invariant-are_same-loop-i l =
    same_all (types_of (map type_of (drop l.i l.types))) (types_of (map type_of (drop l.i l.others)))
    ≡ same_all (types_of (map type_of l.types)) (types_of (map type_of l.others))
