use Rattle.std.proofs.Common.{◌≡◌, ◌≤◌, ◌-◌, ◌^◌, List, ℕ, length}
use Rattle.std.specs.Io.KnownBytes.{Consumes}
use Rattle.syntax_tree.specs.Tallies.{Grows}
use Rattle.lsp_loop.specs.Turns.{IsAt}
use Rattle.lsp_loop.proofs.run.take_input.Given as goal

abbrev pub invariant-loop-total : goal.invariant-loop-total
invariant-loop-total g l =
    ((taken : List ℕ) × (length taken ≡ l.total) × Consumes (g.S.Source.left l.fn.src) (g.S.Source.left l.src) taken
    × IsAt (g.K.Sink.held l.fn.sink) (g.K.Sink.held l.sink) taken l.documents l.incoming)
    × (l.total ≤ 2 ^ 40)
    × (g.S.Source.faults l.fn.src ≤ g.S.Source.faults l.src)
    × (g.K.Sink.faults l.fn.sink ≤ g.K.Sink.faults l.sink)
    × Grows (g.C.Counts.tallies l.fn.counts) (g.C.Counts.tallies l.counts)

abbrev pub decreases-loop-total : goal.decreases-loop-total
decreases-loop-total g l = 2 ^ 40 - l.total
