use Rattle.std.proofs.Common.{rules, arith, ◌++◌, [], append-nil, length-append, refl, subst}
use Rattle.std.proofs.KnownBytes.{Consumes-trans}
use Rattle.std.specs.Io.KnownBytes.{Consumes}
use Rattle.lsp_loop.proofs.Runs.{ends_by, ends_input}
use Rattle.lsp_loop.proofs.run.take_input.Goals as goal

pub loop-total-preserved : goal.loop-total-preserved
loop-total-preserved g c =
    let inv = c.loop-total.invariant in
    let so_far = inv.0 in
    let taken = so_far.0 in
    let at = so_far.3 in
    let step = c.in-Took.ensures.goes _ taken at.0 at.1 at.2 in
    let bytes = step.0 in
    let more = c.in-Took.ensures.progress c.in-Took.count refl in (
      (
        taken ++ bytes,
        omega (arith, length-append taken bytes, so_far.1, step.1),
        Consumes-trans _ _ _ taken bytes so_far.2 step.2,
        step.3,
      ),
      omega (arith, more.1, c.min-most.ensures, c.loop-total-test.true),
      omega (arith, inv.2, c.take_turn.ensures.reads),
      omega (arith, inv.3, c.take_turn.ensures.writes),
      search rules,
    )

pub returns-in-Over-clause-outcome : goal.returns-in-Over-clause-outcome
returns-in-Over-clause-outcome g c =
    let so_far = c.loop-total.invariant.0 in
    let at = so_far.3 in
    let step = c.in-Over.ensures.goes _ so_far.0 at.0 at.1 at.2 in
    let took = subst (Consumes (g.S.Source.left c.args.src.now) (g.S.Source.left c.take_turn.new.src)) (append-nil so_far.0) (Consumes-trans _ _ _ so_far.0 [] so_far.2 step.0) in
    ends_input c.end_of_input.result _ _ _ _ so_far.0 _ _ took step.1 step.2 c.end_of_input.ensures

pub returns-in-ReadFault-clause-outcome : goal.returns-in-ReadFault-clause-outcome
returns-in-ReadFault-clause-outcome g c =
    let so_far = c.loop-total.invariant.0 in
    let at = so_far.3 in
    let step = c.in-ReadFault.ensures.goes _ so_far.0 at.0 at.1 at.2 in
    let took = subst (Consumes (g.S.Source.left c.args.src.now) (g.S.Source.left c.take_turn.new.src)) (append-nil so_far.0) (Consumes-trans _ _ _ so_far.0 [] so_far.2 step.0) in
    (so_far.0, omega (arith, so_far.1, c.loop-total-test.true), took, (c.take_turn.new.documents, step.1.0, step.1.1))

pub returns-in-Stops-clause-outcome : goal.returns-in-Stops-clause-outcome
returns-in-Stops-clause-outcome g c =
    let so_far = c.loop-total.invariant.0 in
    let at = so_far.3 in
    let step = c.in-Stops.ensures.goes _ so_far.0 at.0 at.1 at.2 in
    ends_by c.in-Stops.end _ _ _ _ (so_far.0 ++ step.0) (Consumes-trans _ _ _ so_far.0 step.0 so_far.2 step.1) step.2

pub returns-clause-outcome : goal.returns-clause-outcome
returns-clause-outcome g c =
    let so_far = c.loop-total.invariant.0 in
    let at = so_far.3 in
    (so_far.0, omega (arith, so_far.1, c.loop-total.invariant.1, c.loop-total-test.false), so_far.2, (c.loop-total.documents, at.0, at.1))
