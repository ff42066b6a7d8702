use Rattle.typing_state.proofs.Going.{goes_trans}
use Rattle.signature_match.proofs.compare.side_over.Goals as goal

pub returns-in-None : goal.returns-in-None
returns-in-None c = record { goes = goes_trans c.args.at.now c.over.new.at c.var.new.self (goes_trans c.args.at.now c.copied.new.at c.over.new.at c.copied.ensures.goes c.over.ensures.goes) c.var.ensures.goes }

pub returns-in_err-instance : goal.returns-in_err-instance
returns-in_err-instance c = record { goes = c.copied.ensures.goes }

pub returns-in_err-join-in-Some : goal.returns-in_err-join-in-Some
returns-in_err-join-in-Some c = record { goes = goes_trans c.args.at.now c.over.new.at c.join.new.self (goes_trans c.args.at.now c.copied.new.at c.over.new.at c.copied.ensures.goes c.over.ensures.goes) c.join.ensures.goes }

pub returns-in_err-whole : goal.returns-in_err-whole
returns-in_err-whole c = record { goes = goes_trans c.args.at.now c.copied.new.at c.over.new.at c.copied.ensures.goes c.over.ensures.goes }

pub returns-in_ok-join-in-Some : goal.returns-in_ok-join-in-Some
returns-in_ok-join-in-Some c = record { goes = goes_trans c.args.at.now c.over.new.at c.join.new.self (goes_trans c.args.at.now c.copied.new.at c.over.new.at c.copied.ensures.goes c.over.ensures.goes) c.join.ensures.goes }
