use Rattle.std.proofs.Common.{[]}
use Rattle.std.proofs.lemmas.Result.{on_ok_weaker, on_err_weaker}
use Rattle.text_model.specs.Lines.{rest_from}
use Rattle.session_loop.proofs.Steps.{finished, cut_last}
use Rattle.session_loop.proofs.turns.finish.Goals as goal

pub returns-clause-done : goal.returns-clause-done
returns-clause-done g c = on_ok_weaker c.answer_line.result (λ answered start before taken so_far.
    let step = answered (rest_from [] taken) so_far.line in
    finished _ start _ _ before _ _ taken step.0 _ _ _ so_far step.1 step.2 step.3) c.answer_line.ensures.done

pub returns-clause-cut : goal.returns-clause-cut
returns-clause-cut g c = on_err_weaker c.answer_line.result (λ answered start before taken so_far.
    let cut = answered (rest_from [] taken) so_far.line in
    cut_last _ start _ _ before _ _ taken _ _ _ _ cut.3 so_far cut.0 cut.2 cut.4 cut.5) c.answer_line.ensures.cut
