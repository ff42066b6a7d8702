use Rattle.typing_state.proofs.Going.{goes_trans}
use Rattle.decl_typing.proofs.reexports.side_over.Goals as goal

pub returns-in-None : goal.returns-in-None
returns-in-None c = record { goes = goes_trans c.args.at.now c.applied.new.at c.var.new.self (goes_trans c.args.at.now c.instance.new.self c.applied.new.at c.instance.ensures.goes c.applied.ensures.goes) c.var.ensures.goes }

pub returns-in_err-instance : goal.returns-in_err-instance
returns-in_err-instance c = record { goes = c.instance.ensures.goes }

pub returns-in_err-join-in-Some : goal.returns-in_err-join-in-Some
returns-in_err-join-in-Some c = record { goes = goes_trans c.args.at.now c.applied.new.at c.join.new.self (goes_trans c.args.at.now c.instance.new.self c.applied.new.at c.instance.ensures.goes c.applied.ensures.goes) c.join.ensures.goes }

pub returns-in_err-whole : goal.returns-in_err-whole
returns-in_err-whole c = record { goes = goes_trans c.args.at.now c.instance.new.self c.applied.new.at c.instance.ensures.goes c.applied.ensures.goes }

pub returns-in_ok-join-in-Some : goal.returns-in_ok-join-in-Some
returns-in_ok-join-in-Some c = record { goes = goes_trans c.args.at.now c.applied.new.at c.join.new.self (goes_trans c.args.at.now c.instance.new.self c.applied.new.at c.instance.ensures.goes c.applied.ensures.goes) c.join.ensures.goes }
