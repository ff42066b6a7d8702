use Rattle.std.proofs.Common.{rules, arith, ◌++◌, ◌∷◌, [], ◌+◌, ◌≡◌, ◌<◌, ◌∙◌, ap, sym, subst, length, List, ℕ, take, get_or, append_assoc}
use Rattle.std.proofs.lemmas.List.{take_more}
use Rattle.text_model.specs.Lines.{ended_from}
use Rattle.session_loop.specs.Progress.{Cut, SoFar}
use Rattle.session_loop.proofs.Steps.{on_err}
use Rattle.session_loop.proofs.feed.take_chunk.Goals as goal

-- the bytes so far, with one more
one_more : (taken chunk : List ℕ) (i : ℕ) → i < length chunk → (taken ++ take i chunk) ++ get_or chunk i 0 ∷ [] ≡ taken ++ take (i + 1) chunk
one_more taken chunk i within = append_assoc taken (take i chunk) (get_or chunk i 0 ∷ []) ∙ ap (λ (l : List ℕ). taken ++ l) (sym (take_more chunk i 0 within))

pub loop-byte-preserved : goal.loop-byte-preserved
loop-byte-preserved g c = (
  λ start before taken so_far.
      let chunk = c.args.chunk.now in
      let i = c.loop-byte.byte-index in
      let step = c.in_ok-take_byte.ensures.done start before (taken ++ take i chunk) (c.loop-byte.invariant.0 start before taken so_far) in
      let within : i < length chunk = omega arith in
      subst (λ (l : List ℕ). SoFar g.A.Analyser.opens start (g.C.Counts.tallies c.take_byte.new.counts) before (g.K.Sink.held c.take_byte.new.sink) l c.take_byte.new.session c.take_byte.new.begun) (one_more taken chunk i within) step,
  omega (arith, c.loop-byte.invariant.1, c.take_byte.ensures.cause.later),
  search rules,
)

pub returns-in_err-take_byte-clause-cut : goal.returns-in_err-take_byte-clause-cut
returns-in_err-take_byte-clause-cut g c = on_err c.from_residual.result (λ start before taken so_far.
    let chunk = c.args.chunk.now in
    let i = c.loop-byte.byte-index in
    let cut = c.in_err-take_byte.ensures.cut start before (taken ++ take i chunk) (c.loop-byte.invariant.0 start before taken so_far) in
    let within : i < length chunk = omega arith in
    (i + 1, subst (λ (l : List ℕ). Cut g.A.Analyser.opens start (g.C.Counts.tallies c.take_byte.new.counts) before (g.K.Sink.held c.take_byte.new.sink) (ended_from [] l)) (one_more taken chunk i within) cut))
