use Rattle.std.proofs.Common.{◌≤◌, ◌<◌, ◌-◌, ◌+◌, length}
use Rattle.ml_lexer.specs.Places.{rest_of}
use Rattle.ml_lexer.proofs.Depths.{Same}
use Rattle.ml_lexer.proofs.comments.comment_end.Given as goal

abbrev pub invariant-loop-i : goal.invariant-loop-i
invariant-loop-i l =
    (0 < l.depth) × (l.depth ≤ l.i + 1) × (l.from ≤ l.i) × (l.i ≤ length (rest_of l.text)) × (Same (rest_of l.text) l.from l.depth l.i)

abbrev pub decreases-loop-i : goal.decreases-loop-i
decreases-loop-i l = length (rest_of l.text) - l.i
