use Rattle.std.proofs.lemmas.Result.{IfOk-weaker}
use Rattle.typing_state.proofs.Going.{goes_refl}
use Rattle.module_steps.proofs.made.applied_if.Goals as goal

pub returns-clause-made : goal.returns-clause-made
returns-clause-made c = IfOk-weaker c.behind.result _ _ (λ m is _. (c.in_ok-anew.anew, is)) c.behind.ensures

pub returns-clause-goes : goal.returns-clause-goes
returns-clause-goes c = c.applied.ensures.goes

pub returns-in_err-anew-clause-goes : goal.returns-in_err-anew-clause-goes
returns-in_err-anew-clause-goes c = c.applied.ensures.goes

pub returns-then-not-matches-clause-goes : goal.returns-then-not-matches-clause-goes
returns-then-not-matches-clause-goes c = goes_refl c.args.at.now
