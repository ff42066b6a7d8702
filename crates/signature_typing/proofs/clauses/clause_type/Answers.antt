use Rattle.typing_state.proofs.Going.{goes_trans}
use Rattle.signature_typing.proofs.clauses.clause_type.Goals as goal

pub returns : goal.returns
returns c = record { goes = goes_trans c.args.at.now c.read_type.new.at c.tuple.new.self (goes_trans c.args.at.now c.loop-name.at c.read_type.new.at c.loop-name.invariant c.read_type.ensures.goes) c.tuple.ensures.goes }

pub returns-in_err-body : goal.returns-in_err-body
returns-in_err-body c = record { goes = goes_trans c.args.at.now c.loop-name.at c.read_type.new.at c.loop-name.invariant c.read_type.ensures.goes }

pub returns-in_err-name : goal.returns-in_err-name
returns-in_err-name c = record { goes = goes_trans c.args.at.now c.loop-name.at c.var.new.self c.loop-name.invariant c.var.ensures.goes }

pub returns-in_err-node : goal.returns-in_err-node
returns-in_err-node c = record { goes = goes_trans c.args.at.now c.loop-name.at c.var.new.self c.loop-name.invariant c.var.ensures.goes }

pub returns-in_err-push : goal.returns-in_err-push
returns-in_err-push c = record { goes = goes_trans c.args.at.now c.loop-name.at c.var.new.self c.loop-name.invariant c.var.ensures.goes }

pub returns-in_err-push-2 : goal.returns-in_err-push-2
returns-in_err-push-2 c = record { goes = goes_trans c.args.at.now c.loop-name.at c.var.new.self c.loop-name.invariant c.var.ensures.goes }

pub returns-in_err-push-3 : goal.returns-in_err-push-3
returns-in_err-push-3 c = record { goes = goes_trans c.args.at.now c.loop-name.at c.read_type.new.at c.loop-name.invariant c.read_type.ensures.goes }

pub returns-then-is_empty : goal.returns-then-is_empty
returns-then-is_empty c = record { goes = goes_trans c.args.at.now c.loop-name.at c.read_type.new.at c.loop-name.invariant c.read_type.ensures.goes }
