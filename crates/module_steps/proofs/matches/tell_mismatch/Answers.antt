use Rattle.typing_state.proofs.Going.{goes_refl}
use Rattle.module_steps.proofs.matches.tell_mismatch.Goals as goal

pub returns-in-None-clause-goes : goal.returns-in-None-clause-goes
returns-in-None-clause-goes c = goes_refl c.args.at.now

pub returns-in_err-report-in-Some-clause-goes : goal.returns-in_err-report-in-Some-clause-goes
returns-in_err-report-in-Some-clause-goes c = c.report.ensures.goes

pub returns-in_err-text-in-Some-clause-goes : goal.returns-in_err-text-in-Some-clause-goes
returns-in_err-text-in-Some-clause-goes c = goes_refl c.args.at.now

pub returns-in_ok-report-in-Some-clause-goes : goal.returns-in_ok-report-in-Some-clause-goes
returns-in_ok-report-in-Some-clause-goes c = c.report.ensures.goes
