use Rattle.typing_state.proofs.Going.{goes_trans}
use Rattle.signature_match.proofs.compare.Both.sides_are_one.Goals as goal

pub returns : goal.returns
returns c = record { goes = goes_trans c.args.at.now c.side_over-2.new.at c.are_one.new.self (goes_trans c.args.at.now c.side_over.new.at c.side_over-2.new.at (goes_trans c.args.at.now c.rigid_arguments.new.at c.side_over.new.at c.rigid_arguments.ensures.goes c.side_over.ensures.goes) c.side_over-2.ensures.goes) c.are_one.ensures.goes }

pub returns-in_err-arguments : goal.returns-in_err-arguments
returns-in_err-arguments c = record { goes = c.rigid_arguments.ensures.goes }

pub returns-in_err-one : goal.returns-in_err-one
returns-in_err-one c = record { goes = goes_trans c.args.at.now c.rigid_arguments.new.at c.side_over.new.at c.rigid_arguments.ensures.goes c.side_over.ensures.goes }

pub returns-in_err-other : goal.returns-in_err-other
returns-in_err-other c = record { goes = goes_trans c.args.at.now c.side_over.new.at c.side_over-2.new.at (goes_trans c.args.at.now c.rigid_arguments.new.at c.side_over.new.at c.rigid_arguments.ensures.goes c.side_over.ensures.goes) c.side_over-2.ensures.goes }
