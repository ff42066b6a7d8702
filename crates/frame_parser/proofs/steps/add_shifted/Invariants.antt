use Rattle.std.proofs.Common.{◌≡◌}
use Rattle.frame_parser.specs.Run.{shifted_by}
use Rattle.frame_parser.proofs.steps.add_shifted.Given as goal

-- so many were counted
abbrev pub invariant-loop : goal.invariant-loop
invariant-loop g l = g.C.Counts.tallies l.counts ≡ shifted_by l.counter (g.C.Counts.tallies l.fn.counts)
