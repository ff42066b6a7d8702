use Rattle.std.proofs.Common.{arith, ◌+◌, ◌<◌, ◌≤◌, List, ℕ, length, map, take, sym, subst}
use Rattle.std.specs.List.{concat}
use Rattle.std.specs.Io.KnownBytes.{Appends}
use Rattle.std.proofs.KnownBytes.{Appends-trans}
use Rattle.lsp_loop.proofs.Runs.{on_err}
use Rattle.lsp_loop.proofs.Taking.{joined_front, joined_more}
use Rattle.lsp_loop.proofs.messages.put_all.Goals as goal

pub loop-piece-preserved : goal.loop-piece-preserved
loop-piece-preserved g c =
    let all = c.args.pieces.now in
    let i = c.loop-piece.piece-index in
    let x = c.piece-item.result in
    let before = g.K.Sink.held c.args.sink.now in
    let now = g.K.Sink.held c.put.new.self in
    let within : i < length all = let n = c.loop-piece-test.true in omega arith in
    let put = subst (Appends (g.K.Sink.held c.loop-piece.sink) now) c.deref.ensures.value c.in_ok-put.ensures.ok in (
      subst (Appends before now) (sym (joined_more (λ v. v.items) all i x within c.piece-item.is)) (Appends-trans before _ now (concat (map (λ v. v.items) (take i all))) x.items c.loop-piece.invariant.0 put),
      omega (arith, c.loop-piece.invariant.1, c.put.ensures.cause.later),
    )

pub returns-in_err-put-clause-cut : goal.returns-in_err-put-clause-cut
returns-in_err-put-clause-cut g c =
    let all = c.args.pieces.now in
    let i = c.loop-piece.piece-index in
    let x = c.piece-item.result in
    let before = g.K.Sink.held c.args.sink.now in
    let now = g.K.Sink.held c.put.new.self in
    let front = concat (map (λ v. v.items) (take i all)) in
    let within : i < length all = let n = c.loop-piece-test.true in omega arith in
    let cut = c.in_err-put.ensures.err in
    let n = cut.0 in
    let fits : n ≤ length x.items = subst (λ (l : List ℕ). n ≤ length l) c.deref.ensures.value cut.1 in
    let put = subst (λ (l : List ℕ). Appends (g.K.Sink.held c.loop-piece.sink) now (take n l)) c.deref.ensures.value cut.2 in
    on_err c.from_residual.result (
      length front + n,
      subst (Appends before now) (joined_front (λ v. v.items) all i n x within c.piece-item.is fits) (Appends-trans before _ now front (take n x.items) c.loop-piece.invariant.0 put),
    )
