use Rattle.typing_state.proofs.Going.{goes_trans}
use Rattle.decl_typing.proofs.reexports.rigid_parameters.Goals as goal

pub returns : goal.returns
returns c = record { goes = c.loop-name.invariant }

pub returns-in_err-name : goal.returns-in_err-name
returns-in_err-name c = record { goes = goes_trans c.args.at.now c.loop-name.at c.rigid.new.self c.loop-name.invariant c.rigid.ensures.goes }

pub returns-in_err-node : goal.returns-in_err-node
returns-in_err-node c = record { goes = goes_trans c.args.at.now c.loop-name.at c.rigid.new.self c.loop-name.invariant c.rigid.ensures.goes }

pub returns-in_err-push : goal.returns-in_err-push
returns-in_err-push c = record { goes = goes_trans c.args.at.now c.loop-name.at c.rigid.new.self c.loop-name.invariant c.rigid.ensures.goes }
