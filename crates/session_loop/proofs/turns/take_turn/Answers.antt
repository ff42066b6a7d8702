use Rattle.std.proofs.Common.{[], ◌++◌, ◌≤◌, length, take, drop, subst, sym, List, ℕ, take-append-drop}
use Rattle.std.proofs.lemmas.List.{take-append-le, length-take-le}
use Rattle.std.specs.Io.KnownBytes.{Consumes}
use Rattle.text_model.specs.Lines.{ended_from}
use Rattle.session_loop.specs.Progress.{Cut, SoFar}
use Rattle.session_loop.proofs.turns.take_turn.Goals as goal

pub returns-in-Ok-take_chunk-clause-goes : goal.returns-in-Ok-take_chunk-clause-goes
returns-in-Ok-take_chunk-clause-goes g c = λ start before taken so_far.
    let step = c.in-Ok-take_chunk.ensures.done start before taken so_far in
    let n = c.in-Ok.count in
    let buf = c.take.new.buf in
    let within : n ≤ length buf = c.in-Ok.ensures.bound in
    let front = take-append-le n buf (drop c.args.most c.args.buf.now) within in (
      take n buf,
      length-take-le n buf within,
      c.in-Ok.ensures.bytes.0,
      subst (λ (l : List ℕ). SoFar g.A.Analyser.opens start (g.C.Counts.tallies c.take_chunk.new.counts) before (g.K.Sink.held c.take_chunk.new.sink) (taken ++ l) c.take_chunk.new.session c.take_chunk.new.begun) front step,
    )

pub returns-in-Err-take_chunk-clause-goes : goal.returns-in-Err-take_chunk-clause-goes
returns-in-Err-take_chunk-clause-goes g c = λ start before taken so_far.
    let cut = c.in-Err-take_chunk.ensures.cut start before taken so_far in
    let n = c.in-Ok.count in
    let buf = c.take.new.buf in
    let within : n ≤ length buf = c.in-Ok.ensures.bound in
    let front = take-append-le n buf (drop c.args.most c.args.buf.now) within in (
      take cut.0 (take n buf),
      drop cut.0 (take n buf),
      subst (Consumes (g.S.Source.left c.args.src.now) (g.S.Source.left c.take.new.self)) (sym (take-append-drop cut.0 (take n buf))) c.in-Ok.ensures.bytes.0,
      subst (λ (l : List ℕ). Cut g.A.Analyser.opens start (g.C.Counts.tallies c.take_chunk.new.counts) before (g.K.Sink.held c.take_chunk.new.sink) (ended_from [] (taken ++ take cut.0 l))) front cut.1,
    )
