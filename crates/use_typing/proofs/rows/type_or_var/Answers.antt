use Rattle.typing_state.proofs.Going.{goes_refl}
use Rattle.use_typing.proofs.Carrying.{any_given, given_already}
use Rattle.use_typing.proofs.rows.type_or_var.Goals as goal

pub returns-in-Some-clause-carries : goal.returns-in-Some-clause-carries
returns-in-Some-clause-carries c = given_already c.args.at.now c.args.ty c.in-Some.ty c.in-Some.ty c.in-Some.is

pub returns-in-None-clause-carries : goal.returns-in-None-clause-carries
returns-in-None-clause-carries c = any_given c.var.result c.args.at.now c.var.new.self c.args.ty c.var.ensures.made c.var.ensures.rest

pub returns-in-None-clause-goes : goal.returns-in-None-clause-goes
returns-in-None-clause-goes c = c.var.ensures.goes

pub returns-in-Some-clause-goes : goal.returns-in-Some-clause-goes
returns-in-Some-clause-goes c = goes_refl c.args.at.now
