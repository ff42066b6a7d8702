use Rattle.typing_state.proofs.Going.{goes_refl}
use Rattle.use_typing.proofs.uses.used_label.Goals as goal

pub returns-in-None-clause-goes : goal.returns-in-None-clause-goes
returns-in-None-clause-goes c = goes_refl c.args.at.now

pub returns-in_err-label_use-in-Some-clause-goes : goal.returns-in_err-label_use-in-Some-clause-goes
returns-in_err-label_use-in-Some-clause-goes c = c.label_use.ensures.goes

pub returns-in_ok-label_use-in-Some-clause-goes : goal.returns-in_ok-label_use-in-Some-clause-goes
returns-in_ok-label_use-in-Some-clause-goes c = c.label_use.ensures.goes
