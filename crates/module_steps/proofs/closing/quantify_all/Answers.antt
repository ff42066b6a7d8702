use Rattle.typing_state.proofs.Going.{goes_trans}
use Rattle.module_steps.proofs.closing.quantify_all.Goals as goal

pub returns-clause-goes : goal.returns-clause-goes
returns-clause-goes c = c.loop-n.invariant.goes

pub returns-in_err-quantify-clause-goes : goal.returns-in_err-quantify-clause-goes
returns-in_err-quantify-clause-goes c = goes_trans c.args.at.now c.loop-n.at c.quantify.new.self c.loop-n.invariant.goes c.quantify.ensures.goes
