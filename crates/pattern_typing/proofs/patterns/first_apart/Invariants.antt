use Rattle.std.proofs.Common.{◌≡◌, drop}
use Rattle.pattern_rows.specs.Sides.{first_apart_here}
use Rattle.pattern_typing.specs.Matching.{binds_of}
use Rattle.pattern_typing.proofs.patterns.first_apart.Given as goal

abbrev pub invariant-loop-name : goal.invariant-loop-name
invariant-loop-name l = first_apart_here (binds_of (drop l.name-index l.names)) (binds_of l.others) ≡ first_apart_here (binds_of l.names) (binds_of l.others)
