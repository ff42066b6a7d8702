use Rattle.typing_state.proofs.Going.{goes_refl}
use Rattle.sig_template.proofs.changing.Changing.owner.Goals as goal

pub returns-in-Some-clause-goes : goal.returns-in-Some-clause-goes
returns-in-Some-clause-goes c = goes_refl c.args.at.now

pub returns-in-None-clause-goes : goal.returns-in-None-clause-goes
returns-in-None-clause-goes c = c.declaration.ensures.goes
