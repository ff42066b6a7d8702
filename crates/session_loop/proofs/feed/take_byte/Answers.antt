use Rattle.std.proofs.Common.{[]}
use Rattle.std.proofs.lemmas.Bool.{ne_eqb}
use Rattle.text_model.specs.Lines.{rest_from}
use Rattle.session_loop.proofs.Steps.{so_far_feed, so_far_byte, cut_feed, on_err}
use Rattle.session_loop.proofs.feed.take_byte.Goals as goal

pub returns-in_err-answer_line-clause-cut : goal.returns-in_err-answer_line-clause-cut
returns-in_err-answer_line-clause-cut g c = on_err c.from_residual.result (λ start before taken so_far.
    let cut = c.in_err-answer_line.ensures.cut (rest_from [] taken) so_far.line in
    cut_feed _ start _ _ before _ _ taken _ _ _ _ _ cut.3 c.if-byte-eq10.true so_far cut.2 cut.4 cut.5)

pub returns-in_ok-answer_line-clause-done : goal.returns-in_ok-answer_line-clause-done
returns-in_ok-answer_line-clause-done g c = λ start before taken so_far.
    let step = c.in_ok-answer_line.ensures.done (rest_from [] taken) so_far.line in
    so_far_feed _ start _ _ before _ _ taken step.0 _ _ _ _ _ c.if-byte-eq10.true so_far step.1 step.2 step.3 c.clear.ensures

pub returns-else-byte-eq10-clause-done : goal.returns-else-byte-eq10-clause-done
returns-else-byte-eq10-clause-done g c = λ start before taken so_far. so_far_byte _ start _ before _ taken _ _ _ _ (ne_eqb _ _ c.if-byte-eq10.false) so_far c.push.ensures
