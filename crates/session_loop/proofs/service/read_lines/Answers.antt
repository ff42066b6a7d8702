use Rattle.std.proofs.Common.{rules, arith, subst, sym, [], append-nil, append_assoc, refl, ◌<◌, ◌++◌, length, length-append, List, ℕ}
use Rattle.std.proofs.KnownBytes.{Consumes-trans}
use Rattle.std.specs.Io.KnownBytes.{Consumes}
use Rattle.service_model.specs.Runs.{request_lines}
use Rattle.session_loop.specs.Outcomes.{RanOver}
use Rattle.session_loop.specs.Progress.{CutShort}
use Rattle.session_loop.specs.Spending.{SpentOver}
use Rattle.session_loop.proofs.Inputs.{consumed_all, consumed_front}
use Rattle.session_loop.proofs.Steps.{ran_over, cut_within, spent_so_far, spent_within}
use Rattle.session_loop.proofs.service.read_lines.Goals as goal

pub loop-total-preserved : goal.loop-total-preserved
loop-total-preserved g c =
    let inv = c.loop-total.invariant in
    let so_far = inv.0 in
    let taken = so_far.0 in
    let step = c.in-Took.ensures.goes _ _ taken so_far.3 in
    let bytes = step.0 in
    let more = c.in-Took.ensures.progress c.in-Took.count refl in (
      (
        taken ++ bytes,
        omega (arith, length-append taken bytes, so_far.1, step.1),
        Consumes-trans _ _ _ taken bytes so_far.2 step.2,
        step.3,
      ),
      omega (arith, more.1, c.min-most.ensures, c.loop-total-test.true),
      omega (arith, inv.2, c.take_turn.ensures.reads),
      omega (arith, inv.3, c.take_turn.ensures.writes),
      search rules,
    )

-- at the end of the input every line was answered
pub returns-in-Ok-clause-outcome : goal.returns-in-Ok-clause-outcome
returns-in-Ok-clause-outcome g c =
    let so_far = c.loop-total.invariant.0 in
    let step = c.in-End.ensures.goes _ _ so_far.0 so_far.3 in
    let P : List ℕ → Type 0 = λ input. (length input < 1099511627776) × RanOver (g.K.Sink.held c.args.sink.now) (g.K.Sink.held c.finish.new.sink) (request_lines input) in
    let short : length so_far.0 < 1099511627776 = omega (arith, so_far.1, c.loop-total-test.true) in
    consumed_all _ _ _ so_far.0 P so_far.2 step.0 step.1 (short, subst (λ (l : List ℕ). RanOver (g.K.Sink.held c.args.sink.now) (g.K.Sink.held c.finish.new.sink) (request_lines l)) (append-nil so_far.0) (let (out, ran, put, spent) = c.in-Ok.ensures.done _ _ (so_far.0 ++ []) step.2 in (out, ran, put)))

-- the put of the last line was cut short
pub returns-in-Err-clause-outcome : goal.returns-in-Err-clause-outcome
returns-in-Err-clause-outcome g c =
    let so_far = c.loop-total.invariant.0 in
    let step = c.in-End.ensures.goes _ _ so_far.0 so_far.3 in
    let P : List ℕ → Type 0 = λ input. CutShort (g.K.Sink.held c.args.sink.now) (g.K.Sink.held c.finish.new.sink) (request_lines input) in
    consumed_all _ _ _ so_far.0 P so_far.2 step.0 step.1 (subst P (append-nil so_far.0) (c.in-Err.ensures.cut _ _ (so_far.0 ++ []) step.2).0)

pub returns-in-ReadFault-clause-outcome : goal.returns-in-ReadFault-clause-outcome
returns-in-ReadFault-clause-outcome g c =
    let so_far = c.loop-total.invariant.0 in
    let step = c.in-ReadFault.ensures.goes _ _ so_far.0 so_far.3 in (
      so_far.0 ++ [],
      omega (arith, so_far.1, c.loop-total-test.true, length-append so_far.0 []),
      Consumes-trans _ _ _ so_far.0 [] so_far.2 step.0,
      ran_over _ _ _ _ _ (so_far.0 ++ []) _ _ step.1,
    )

-- the put of a line within the input was cut short
pub returns-in-WriteFault-clause-outcome : goal.returns-in-WriteFault-clause-outcome
returns-in-WriteFault-clause-outcome g c =
    let so_far = c.loop-total.invariant.0 in
    let step = c.in-WriteFault.ensures.goes _ _ so_far.0 so_far.3 in
    let P : List ℕ → Type 0 = λ input. CutShort (g.K.Sink.held c.args.sink.now) (g.K.Sink.held c.take_turn.new.sink) (request_lines input) in
    let taken = subst (Consumes (g.S.Source.left c.args.src.now) (g.S.Source.left c.take_turn.new.src)) (sym (append_assoc so_far.0 step.0 step.1)) (Consumes-trans _ _ _ so_far.0 (step.0 ++ step.1) so_far.2 step.2) in
    consumed_front _ _ (so_far.0 ++ step.0) step.1 P taken (λ rest. cut_within _ _ (so_far.0 ++ step.0) rest step.3.0)

pub returns-clause-outcome : goal.returns-clause-outcome
returns-clause-outcome g c =
    let so_far = c.loop-total.invariant.0 in (
      so_far.0,
      omega (arith, so_far.1, c.loop-total.invariant.1, c.loop-total-test.false),
      so_far.2,
      ran_over _ _ _ _ _ so_far.0 _ _ so_far.3,
    )

-- no more was lexed and parsed than the lines may read that were answered
pub returns-in-Ok-clause-spent : goal.returns-in-Ok-clause-spent
returns-in-Ok-clause-spent g c =
    let so_far = c.loop-total.invariant.0 in
    let step = c.in-End.ensures.goes _ _ so_far.0 so_far.3 in
    let P : List ℕ → Type 0 = λ input. SpentOver g.A.Analyser.opens (g.C.Counts.tallies c.args.counts.now) (g.C.Counts.tallies c.finish.new.counts) (g.K.Sink.held c.args.sink.now) (g.K.Sink.held c.finish.new.sink) (request_lines input) in
    consumed_all _ _ _ so_far.0 P so_far.2 step.0 step.1 (subst P (append-nil so_far.0) (let (out, ran, put, spent) = c.in-Ok.ensures.done _ _ (so_far.0 ++ []) step.2 in spent))

pub returns-in-Err-clause-spent : goal.returns-in-Err-clause-spent
returns-in-Err-clause-spent g c =
    let so_far = c.loop-total.invariant.0 in
    let step = c.in-End.ensures.goes _ _ so_far.0 so_far.3 in
    let P : List ℕ → Type 0 = λ input. SpentOver g.A.Analyser.opens (g.C.Counts.tallies c.args.counts.now) (g.C.Counts.tallies c.finish.new.counts) (g.K.Sink.held c.args.sink.now) (g.K.Sink.held c.finish.new.sink) (request_lines input) in
    consumed_all _ _ _ so_far.0 P so_far.2 step.0 step.1 (subst P (append-nil so_far.0) (c.in-Err.ensures.cut _ _ (so_far.0 ++ []) step.2).1)

pub returns-in-ReadFault-clause-spent : goal.returns-in-ReadFault-clause-spent
returns-in-ReadFault-clause-spent g c =
    let so_far = c.loop-total.invariant.0 in
    let step = c.in-ReadFault.ensures.goes _ _ so_far.0 so_far.3 in
    let P : List ℕ → Type 0 = λ input. SpentOver g.A.Analyser.opens (g.C.Counts.tallies c.args.counts.now) (g.C.Counts.tallies c.take_turn.new.counts) (g.K.Sink.held c.args.sink.now) (g.K.Sink.held c.take_turn.new.sink) (request_lines input) in
    consumed_front _ _ so_far.0 [] P (Consumes-trans _ _ _ so_far.0 [] so_far.2 step.0)
    (λ rest. subst (λ (l : List ℕ). P (l ++ rest)) (append-nil so_far.0) (spent_within _ _ _ _ _ (so_far.0 ++ []) rest (spent_so_far _ _ _ _ _ (so_far.0 ++ []) _ _ step.1)))

pub returns-in-WriteFault-clause-spent : goal.returns-in-WriteFault-clause-spent
returns-in-WriteFault-clause-spent g c =
    let so_far = c.loop-total.invariant.0 in
    let step = c.in-WriteFault.ensures.goes _ _ so_far.0 so_far.3 in
    let P : List ℕ → Type 0 = λ input. SpentOver g.A.Analyser.opens (g.C.Counts.tallies c.args.counts.now) (g.C.Counts.tallies c.take_turn.new.counts) (g.K.Sink.held c.args.sink.now) (g.K.Sink.held c.take_turn.new.sink) (request_lines input) in
    let taken = subst (Consumes (g.S.Source.left c.args.src.now) (g.S.Source.left c.take_turn.new.src)) (sym (append_assoc so_far.0 step.0 step.1)) (Consumes-trans _ _ _ so_far.0 (step.0 ++ step.1) so_far.2 step.2) in
    consumed_front _ _ (so_far.0 ++ step.0) step.1 P taken (λ rest. spent_within _ _ _ _ _ (so_far.0 ++ step.0) rest step.3.1)

pub returns-clause-spent : goal.returns-clause-spent
returns-clause-spent g c =
    let so_far = c.loop-total.invariant.0 in
    let P : List ℕ → Type 0 = λ input. SpentOver g.A.Analyser.opens (g.C.Counts.tallies c.args.counts.now) (g.C.Counts.tallies c.loop-total.counts) (g.K.Sink.held c.args.sink.now) (g.K.Sink.held c.loop-total.sink) (request_lines input) in
    consumed_front _ _ so_far.0 [] P (subst (Consumes (g.S.Source.left c.args.src.now) (g.S.Source.left c.loop-total.src)) (sym (append-nil so_far.0)) so_far.2) (λ rest. spent_within _ _ _ _ _ so_far.0 rest (spent_so_far _ _ _ _ _ so_far.0 _ _ so_far.3))
