use Rattle.typing_state.proofs.Going.{goes_trans}
use Rattle.decl_typing.proofs.reexports.compared.Goals as goal

pub returns : goal.returns
returns c = record { goes = goes_trans c.args.at.now c.rigid_parameters.new.at c.is_told_by.new.at (goes_trans c.args.at.now c.group_env.new.at c.rigid_parameters.new.at c.group_env.ensures.goes c.rigid_parameters.ensures.goes) c.is_told_by.ensures.goes }

pub returns-in_err-inner : goal.returns-in_err-inner
returns-in_err-inner c = record { goes = c.group_env.ensures.goes }

pub returns-in_err-rigid_parameters : goal.returns-in_err-rigid_parameters
returns-in_err-rigid_parameters c = record { goes = goes_trans c.args.at.now c.group_env.new.at c.rigid_parameters.new.at c.group_env.ensures.goes c.rigid_parameters.ensures.goes }
