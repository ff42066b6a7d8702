use Rattle.typing_state.proofs.Going.{goes_trans}
use Rattle.signature_match.proofs.compare.are_one_over.Goals as goal

pub returns : goal.returns
returns c = record { goes = goes_trans c.args.at.now c.over-2.new.at c.are_one.new.self (goes_trans c.args.at.now c.over.new.at c.over-2.new.at (goes_trans c.args.at.now c.rigid_arguments.new.at c.over.new.at c.rigid_arguments.ensures.goes c.over.ensures.goes) c.over-2.ensures.goes) c.are_one.ensures.goes }

pub returns-in_err-arguments : goal.returns-in_err-arguments
returns-in_err-arguments c = record { goes = c.rigid_arguments.ensures.goes }

pub returns-in_err-asked : goal.returns-in_err-asked
returns-in_err-asked c = record { goes = goes_trans c.args.at.now c.over.new.at c.over-2.new.at (goes_trans c.args.at.now c.rigid_arguments.new.at c.over.new.at c.rigid_arguments.ensures.goes c.over.ensures.goes) c.over-2.ensures.goes }

pub returns-in_err-found : goal.returns-in_err-found
returns-in_err-found c = record { goes = goes_trans c.args.at.now c.rigid_arguments.new.at c.over.new.at c.rigid_arguments.ensures.goes c.over.ensures.goes }
