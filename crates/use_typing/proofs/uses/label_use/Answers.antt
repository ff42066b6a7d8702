use Rattle.typing_state.proofs.Going.{goes_trans}
use Rattle.use_typing.proofs.uses.label_use.Goals as goal

pub returns-clause-goes : goal.returns-clause-goes
returns-clause-goes c = goes_trans c.args.at.now c.instance.new.self c.sides_or_vars.new.at c.instance.ensures.goes c.sides_or_vars.ensures.goes

pub returns-in_err-instance-clause-goes : goal.returns-in_err-instance-clause-goes
returns-in_err-instance-clause-goes c = c.instance.ensures.goes

pub returns-in_err-record-clause-goes : goal.returns-in_err-record-clause-goes
returns-in_err-record-clause-goes c = goes_trans c.args.at.now c.instance.new.self c.sides_or_vars.new.at c.instance.ensures.goes c.sides_or_vars.ensures.goes
