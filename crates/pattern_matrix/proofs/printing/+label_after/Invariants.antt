use Rattle.std.proofs.Common.{length}
use Rattle.pattern_matrix.proofs.printing.+label_after.Given as goal

abbrev pub decreases-label_after : goal.decreases-label_after
decreases-label_after l = length l.labels.now
