use Rattle.typing_state.proofs.Going.{goes_refl}
use Rattle.signature_typing.proofs.clauses.report_with.Goals as goal

pub returns-in-Functor-clause-goes : goal.returns-in-Functor-clause-goes
returns-in-Functor-clause-goes c = c.tell_with-in-Functor.ensures.goes

pub returns-in-Hole-clause-goes : goal.returns-in-Hole-clause-goes
returns-in-Hole-clause-goes c = goes_refl c.args.at.now

pub returns-in-Structure-clause-goes : goal.returns-in-Structure-clause-goes
returns-in-Structure-clause-goes c = c.tell_with.ensures.goes
