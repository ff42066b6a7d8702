use Rattle.std.proofs.Common.{◌≡◌, map, take}
use Rattle.pattern_matrix.specs.Views.{typed_of}
use Rattle.pattern_matrix.proofs.same.+same.Given as goal

abbrev pub invariant-same_pats-loop-i : goal.invariant-same_pats-loop-i
invariant-same_pats-loop-i l = map typed_of (take l.i l.pats) ≡ map typed_of (take l.i l.others)
