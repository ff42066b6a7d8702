use Rattle.std.proofs.Common.{◌≡◌, length, map}
use Rattle.pattern_matrix.specs.Views.{typed_of}
use Rattle.match_warnings.specs.Patterns.{list_of}
use Rattle.match_warnings.proofs.Patterns.{list_before}
use Rattle.match_warnings.proofs.pats.list.Given as goal

abbrev pub invariant-loop-last : goal.invariant-loop-last
invariant-loop-last l = list_before (typed_of l.whole) (map typed_of l.parts.items) ≡ list_of (map typed_of l.fn.parts.items)

abbrev pub decreases-loop-last : goal.decreases-loop-last
decreases-loop-last l = length l.parts.items
