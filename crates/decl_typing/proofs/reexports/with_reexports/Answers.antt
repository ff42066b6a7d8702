use Rattle.typing_state.proofs.Going.{goes_trans}
use Rattle.decl_typing.proofs.reexports.with_reexports.Goals as goal

pub returns-clause-goes : goal.returns-clause-goes
returns-clause-goes c = c.loop-place.invariant.goes

pub returns-in_err-more-clause-goes : goal.returns-in_err-more-clause-goes
returns-in_err-more-clause-goes c = goes_trans c.args.at.now c.loop-place.at c.with_reexport.new.at c.loop-place.invariant.goes c.with_reexport.ensures.goes
