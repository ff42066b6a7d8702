use Rattle.std.proofs.Common.{◌≤◌, map, take}
use Rattle.std.specs.List.{concat}
use Rattle.std.specs.Io.KnownBytes.{Appends}
use Rattle.lsp_loop.proofs.messages.put_all.Given as goal

abbrev pub invariant-loop-piece : goal.invariant-loop-piece
invariant-loop-piece g l =
    Appends (g.K.Sink.held l.fn.sink) (g.K.Sink.held l.sink) (concat (map (λ v. v.items) (take l.piece-index l.pieces))) × (g.K.Sink.faults l.fn.sink ≤ g.K.Sink.faults l.sink)
