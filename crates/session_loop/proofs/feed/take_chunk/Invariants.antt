use Rattle.std.proofs.Common.{◌≤◌, ◌++◌, List, ℕ, Option, take}
use Rattle.syntax_tree.specs.Tallies.{Grows, Tallies}
use Rattle.session_loop.specs.Progress.{SoFar}
use Rattle.session_loop.proofs.feed.take_chunk.Given as goal

abbrev pub invariant-loop-byte : goal.invariant-loop-byte
invariant-loop-byte g l = ((start : Tallies) (before : Option (List ℕ)) (taken : List ℕ) → SoFar g.A.Analyser.opens start (g.C.Counts.tallies l.fn.counts) before (g.K.Sink.held l.fn.sink) taken l.fn.session l.fn.begun → SoFar g.A.Analyser.opens start (g.C.Counts.tallies l.counts) before (g.K.Sink.held l.sink) (taken ++ take l.byte-index l.chunk) l.session l.begun)
    × (g.K.Sink.faults l.fn.sink ≤ g.K.Sink.faults l.sink)
    × Grows (g.C.Counts.tallies l.fn.counts) (g.C.Counts.tallies l.counts)
