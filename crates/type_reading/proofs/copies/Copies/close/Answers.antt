use Rattle.typing_state.proofs.Silence.{store_silent}
use Rattle.std.proofs.Common.{◌∙◌}
use Rattle.typing_state.proofs.Going.{goes_trans}
use Rattle.type_reading.proofs.copies.Copies.close.Goals as goal

pub returns-clause-goes : goal.returns-clause-goes
returns-clause-goes c = c.loop.invariant.goes

pub returns-in_err-quantify-clause-goes : goal.returns-in_err-quantify-clause-goes
returns-in_err-quantify-clause-goes c = goes_trans c.args.at.now c.loop.at c.quantify.new.self c.loop.invariant.goes c.quantify.ensures.goes

pub returns-clause-silent : goal.returns-clause-silent
returns-clause-silent c = c.loop.invariant.silent

pub returns-in_err-quantify-clause-silent : goal.returns-in_err-quantify-clause-silent
returns-in_err-quantify-clause-silent c = store_silent c.loop.at c.quantify.new.self c.quantify.ensures.rest ∙ c.loop.invariant.silent
