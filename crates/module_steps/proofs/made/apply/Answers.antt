use Rattle.typing_state.proofs.Going.{goes_refl, goes_trans}
use Rattle.module_steps.proofs.made.apply.Goals as goal

pub returns-in-Hole-clause-goes : goal.returns-in-Hole-clause-goes
returns-in-Hole-clause-goes c = goes_refl c.args.at.now

pub returns-in-Structure-clause-goes : goal.returns-in-Structure-clause-goes
returns-in-Structure-clause-goes c = goes_refl c.args.at.now

pub returns-in_err-kept-in-Functor-clause-goes : goal.returns-in_err-kept-in-Functor-clause-goes
returns-in_err-kept-in-Functor-clause-goes c = c.ask_match.ensures.goes

pub returns-in_ok-kept-in-Functor-clause-goes : goal.returns-in_ok-kept-in-Functor-clause-goes
returns-in_ok-kept-in-Functor-clause-goes c = goes_trans c.args.at.now c.ask_match.new.at c.applied_if.new.at c.ask_match.ensures.goes c.applied_if.ensures.goes
