use Rattle.std.proofs.Common.{◌++◌, ◌≤◌, List, ℕ, [], length, take, drop, subst}
use Rattle.std.proofs.KnownBytes.{Consumes-kept, Consumes-nil}
use Rattle.std.proofs.lemmas.List.{length-take-le, take-append-le}
use Rattle.lsp_loop.specs.Outcomes.{EndsBy}
use Rattle.lsp_loop.specs.Turns.{IsAt}
use Rattle.lsp_loop.proofs.run.take_turn.Goals as goal

pub returns-in-None-clause-goes : goal.returns-in-None-clause-goes
returns-in-None-clause-goes g c = λ before taken rest so_far keeps.
    let n = c.in-Ok.count in
    let buf = c.take.new.buf in
    let within : n ≤ length buf = c.in-Ok.ensures.bound in (
      take n buf,
      length-take-le n buf within,
      c.in-Ok.ensures.bytes.0,
      subst (λ (l : List ℕ). IsAt before (g.K.Sink.held c.take_chunk.new.sink) (taken ++ l) c.take_chunk.new.documents c.take_chunk.new.self) (take-append-le n buf (drop c.args.most c.args.buf.now) within)
          (c.in-None.ensures.taken before taken rest so_far keeps),
    )

pub returns-in-Some-clause-goes : goal.returns-in-Some-clause-goes
returns-in-Some-clause-goes g c = λ before taken rest so_far keeps.
    let n = c.in-Ok.count in
    let buf = c.take.new.buf in
    let within : n ≤ length buf = c.in-Ok.ensures.bound in (
      take n buf,
      c.in-Ok.ensures.bytes.0,
      subst (λ (l : List ℕ). EndsBy c.in-Some.end before (g.K.Sink.held c.take_chunk.new.sink) (taken ++ l)) (take-append-le n buf (drop c.args.most c.args.buf.now) within)
          (c.in-Some.ensures.taken before taken rest so_far keeps),
    )

pub returns-in-Err-clause-goes : goal.returns-in-Err-clause-goes
returns-in-Err-clause-goes g c = λ before taken rest so_far keeps. (Consumes-kept _ _ _ [] (Consumes-nil _) c.in-Err.ensures.bytes, (rest, so_far, keeps))
