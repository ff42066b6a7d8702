use Rattle.std.proofs.Common.{drop}
use Rattle.pattern_matrix.specs.Known.{AreCovered}
use Rattle.pattern_matrix.proofs.known.Known.has.Given as goal

abbrev pub invariant-loop-known : goal.invariant-loop-known
invariant-loop-known l = AreCovered (drop l.known-index l.known-items)
