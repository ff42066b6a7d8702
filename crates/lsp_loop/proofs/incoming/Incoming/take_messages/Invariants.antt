use Rattle.std.proofs.Common.{◌≤◌, ◌-◌, List, ℕ, Option, drop, length}
use Rattle.syntax_tree.specs.Tallies.{Grows}
use Rattle.lsp_loop.specs.Progress.{SoFar}
use Rattle.lsp_loop.specs.Waiting.{Waits}
use Rattle.lsp_loop.proofs.incoming.Incoming.take_messages.Given as goal

abbrev pub invariant-loop-at : goal.invariant-loop-at
invariant-loop-at g l =
    ((before : Option (List ℕ)) (taken rest : List ℕ) → SoFar before (g.K.Sink.held l.fn.sink) taken l.fn.documents rest → Waits l.fn.self.skipped l.fn.self.bytes.items rest
    → (now : List ℕ) × SoFar before (g.K.Sink.held l.sink) taken l.documents now × Waits l.self.skipped (drop l.at l.self.bytes.items) now)
    × (l.at ≤ length l.self.bytes.items)
    × (g.K.Sink.faults l.fn.sink ≤ g.K.Sink.faults l.sink)
    × Grows (g.C.Counts.tallies l.fn.counts) (g.C.Counts.tallies l.counts)

abbrev pub decreases-loop-at : goal.decreases-loop-at
decreases-loop-at g l = length l.self.bytes.items - l.at
