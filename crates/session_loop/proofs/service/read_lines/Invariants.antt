use Rattle.std.proofs.Common.{◌≡◌, ◌≤◌, ◌-◌, ◌^◌, List, ℕ, length}
use Rattle.std.specs.Io.KnownBytes.{Consumes}
use Rattle.syntax_tree.specs.Tallies.{Grows}
use Rattle.session_loop.specs.Progress.{SoFar}
use Rattle.session_loop.proofs.service.read_lines.Given as goal

abbrev pub invariant-loop-total : goal.invariant-loop-total
invariant-loop-total g l =
    ((taken : List ℕ) × (length taken ≡ l.total) × Consumes (g.S.Source.left l.fn.src) (g.S.Source.left l.src) taken
    × SoFar g.A.Analyser.opens (g.C.Counts.tallies l.fn.counts) (g.C.Counts.tallies l.counts) (g.K.Sink.held l.fn.sink) (g.K.Sink.held l.sink) taken l.session l.begun)
    × (l.total ≤ 2 ^ 40)
    × (g.S.Source.faults l.fn.src ≤ g.S.Source.faults l.src)
    × (g.K.Sink.faults l.fn.sink ≤ g.K.Sink.faults l.sink)
    × Grows (g.C.Counts.tallies l.fn.counts) (g.C.Counts.tallies l.counts)

abbrev pub decreases-loop-total : goal.decreases-loop-total
decreases-loop-total g l = 2 ^ 40 - l.total
