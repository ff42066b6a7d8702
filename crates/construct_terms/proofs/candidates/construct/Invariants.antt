use Rattle.std.proofs.Common.{◌≡◌, length}
use Rattle.syntax_tree.specs.Tallies.{Grows}
use Rattle.construct_terms.specs.Terms.{AreKept, told_by}
use Rattle.construct_terms.proofs.Spending.{TriedSoFar}
use Rattle.construct_terms.proofs.candidates.construct.Given as goal

abbrev pub invariant-loop-candidate : goal.invariant-loop-candidate
invariant-loop-candidate g l =
    AreKept (told_by (g.T.Trial.tells (g.T.Trial.text l.fn.trial))) l.yielded l.kept.items
    × (g.T.Trial.text l.trial ≡ g.T.Trial.text l.fn.trial)
    × Grows (g.C.Counts.tallies l.fn.counts) (g.C.Counts.tallies l.counts)
    × TriedSoFar g.T.Trial.spends (g.T.Trial.text l.fn.trial) l.fn.candidates.items (length l.yielded) l.fn.trial l.trial (g.C.Counts.tallies l.fn.counts) (g.C.Counts.tallies l.counts)
