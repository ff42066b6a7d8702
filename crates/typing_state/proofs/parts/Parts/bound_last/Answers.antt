use Rattle.typing_state.proofs.Going.{goes_refl}
use Rattle.typing_state.proofs.parts.Parts.bound_last.Goals as goal

pub returns-in-None-clause-goes : goal.returns-in-None-clause-goes
returns-in-None-clause-goes c = goes_refl c.args.self.now

pub returns-in-Some-clause-goes : goal.returns-in-Some-clause-goes
returns-in-Some-clause-goes c = c.bound.ensures.goes
