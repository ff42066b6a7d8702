use Rattle.typing_state.proofs.Going.{goes_trans}
use Rattle.signature_match.proofs.compare.known_are_one.Goals as goal

pub returns : goal.returns
returns c = record { goes = goes_trans c.args.at.now c.copied-2.new.at c.are_one.new.self (goes_trans c.args.at.now c.copied.new.at c.copied-2.new.at c.copied.ensures.goes c.copied-2.ensures.goes) c.are_one.ensures.goes }

pub returns-in_err-one : goal.returns-in_err-one
returns-in_err-one c = record { goes = c.copied.ensures.goes }

pub returns-in_err-other : goal.returns-in_err-other
returns-in_err-other c = record { goes = goes_trans c.args.at.now c.copied.new.at c.copied-2.new.at c.copied.ensures.goes c.copied-2.ensures.goes }
