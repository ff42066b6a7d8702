use Rattle.typing_state.proofs.Going.{goes_trans, goes_refl}
use Rattle.decl_typing.proofs.reexports.labels_agree.Goals as goal

pub returns : goal.returns
returns c = record { goes = c.loop-label.invariant }

pub returns-in_err-are_one : goal.returns-in_err-are_one
returns-in_err-are_one c = record { goes = goes_trans c.args.at.now c.side_over.new.at c.are_one.new.self (goes_trans c.args.at.now c.read_type.new.at c.side_over.new.at (goes_trans c.args.at.now c.loop-label.at c.read_type.new.at c.loop-label.invariant c.read_type.ensures.goes) c.side_over.ensures.goes) c.are_one.ensures.goes }

pub returns-in_err-found : goal.returns-in_err-found
returns-in_err-found c = record { goes = goes_trans c.args.at.now c.read_type.new.at c.side_over.new.at (goes_trans c.args.at.now c.loop-label.at c.read_type.new.at c.loop-label.invariant c.read_type.ensures.goes) c.side_over.ensures.goes }

pub returns-in_err-wanted : goal.returns-in_err-wanted
returns-in_err-wanted c = record { goes = goes_trans c.args.at.now c.loop-label.at c.read_type.new.at c.loop-label.invariant c.read_type.ensures.goes }

pub returns-then-actual-wanted : goal.returns-then-actual-wanted
returns-then-actual-wanted c = record { goes = goes_refl c.args.at.now }

pub returns-then-not-branch : goal.returns-then-not-branch
returns-then-not-branch c = record { goes = goes_trans c.args.at.now c.side_over.new.at c.are_one.new.self (goes_trans c.args.at.now c.read_type.new.at c.side_over.new.at (goes_trans c.args.at.now c.loop-label.at c.read_type.new.at c.loop-label.invariant c.read_type.ensures.goes) c.side_over.ensures.goes) c.are_one.ensures.goes }

pub returns-then-not-is : goal.returns-then-not-is
returns-then-not-is c = record { goes = c.loop-label.invariant }
