use Rattle.typing_state.proofs.Going.{goes_refl}
use Rattle.use_typing.proofs.uses.ask_count.Goals as goal

pub returns-clause-goes : goal.returns-clause-goes
returns-clause-goes c = c.arity.ensures.goes

pub returns-in_default-clause-goes : goal.returns-in_default-clause-goes
returns-in_default-clause-goes c = goes_refl c.args.at.now

pub returns-in_err-arity-clause-goes : goal.returns-in_err-arity-clause-goes
returns-in_err-arity-clause-goes c = c.arity.ensures.goes
