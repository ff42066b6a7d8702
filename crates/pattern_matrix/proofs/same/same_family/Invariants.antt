use Rattle.std.proofs.Common.{◌≡◌, map, take}
use Rattle.pattern_matrix.specs.Views.{member_of}
use Rattle.pattern_matrix.proofs.same.same_family.Given as goal

abbrev pub invariant-loop-i : goal.invariant-loop-i
invariant-loop-i l = map member_of (take l.i l.all) ≡ map member_of (take l.i l.others)
