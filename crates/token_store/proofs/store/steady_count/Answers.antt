use Rattle.std.proofs.Common.{◌-◌, ◌<◌, ◌≤◌, ℕ, List, map, length, get_or, sym, ◌∙◌, ap, subst, arith}
use Rattle.std.proofs.lemmas.List.{length-map, take-map}
use Rattle.ml_lexer.specs.Reached.{reached_of}
use Rattle.token_store.proofs.Peaks.{peaks_many, fewer, near}
use Rattle.token_store.proofs.store.steady_count.Goals as goal

pub bounds-peaks-count : goal.bounds-peaks-count
bounds-peaks-count c =
    omega (arith, ap length c.requires.peaks, peaks_many 0 (map reached_of c.args.tokens.now), length-map c.args.tokens.now reached_of, c.loop-count.invariant.0, c.loop-count-test.true)

pub loop-count-preserved : goal.loop-count-preserved
loop-count-preserved c =
    let ts = map reached_of c.args.tokens.now in
    let inside = c.loop-count.invariant.0 in
    let behind = subst (λ (l : List ℕ). c.args.place < get_or l (c.loop-count.count - 1) 0) c.requires.peaks c.if-peaks-count.true in (
      omega (arith, inside),
      fewer c.args.place c.loop-count.count 0 ts (omega (arith, c.loop-count-test.true)) (omega (arith, inside, length-map c.args.tokens.now reached_of)) behind ∙ c.loop-count.invariant.1,
    )

pub returns-else-peaks-count-clause-steady : goal.returns-else-peaks-count-clause-steady
returns-else-peaks-count-clause-steady c =
    let ts = map reached_of c.args.tokens.now in
    let inside = c.loop-count.invariant.0 in
    let close = subst (λ (l : List ℕ). get_or l (c.loop-count.count - 1) 0 ≤ c.args.place) c.requires.peaks c.if-peaks-count.false in
    sym (take-map reached_of c.loop-count.count c.args.tokens.now)
    ∙ sym (near c.args.place c.loop-count.count 0 ts (omega (arith, c.loop-count-test.true)) (omega (arith, inside, length-map c.args.tokens.now reached_of)) close)
    ∙ c.loop-count.invariant.1
