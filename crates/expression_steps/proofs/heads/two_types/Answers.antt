use Rattle.typing_state.proofs.Going.{goes_trans}
use Rattle.typing_rows.proofs.Given.{makes_both}
use Rattle.expression_steps.proofs.heads.two_types.Goals as goal

pub returns-clause-carries : goal.returns-clause-carries
returns-clause-carries c = makes_both c.args.at.now c.var.new.self c.var-2.new.self c.in_ok-from.from.0 c.in_ok-to.to.0 c.in_ok-from.ensures.made c.var.ensures.rest c.in_ok-to.ensures.made c.var-2.ensures.rest

pub returns-clause-goes : goal.returns-clause-goes
returns-clause-goes c = goes_trans c.args.at.now c.var.new.self c.var-2.new.self c.var.ensures.goes c.var-2.ensures.goes

pub returns-in_err-from-clause-goes : goal.returns-in_err-from-clause-goes
returns-in_err-from-clause-goes c = c.var.ensures.goes

pub returns-in_err-to-clause-goes : goal.returns-in_err-to-clause-goes
returns-in_err-to-clause-goes c = goes_trans c.args.at.now c.var.new.self c.var-2.new.self c.var.ensures.goes c.var-2.ensures.goes
