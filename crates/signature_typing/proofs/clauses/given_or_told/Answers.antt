use Rattle.typing_state.proofs.Going.{goes_refl}
use Rattle.signature_typing.proofs.clauses.given_or_told.Goals as goal

pub returns-in-Some-clause-goes : goal.returns-in-Some-clause-goes
returns-in-Some-clause-goes c = goes_refl c.args.at.now

pub returns-in_err-report_with-in-None-clause-goes : goal.returns-in_err-report_with-in-None-clause-goes
returns-in_err-report_with-in-None-clause-goes c = c.report_with.ensures.goes

pub returns-in_ok-report_with-in-None-clause-goes : goal.returns-in_ok-report_with-in-None-clause-goes
returns-in_ok-report_with-in-None-clause-goes c = c.report_with.ensures.goes
