use Rattle.typing_state.proofs.Going.{goes_trans}
use Rattle.signature_typing.proofs.clauses.behind_clause.Goals as goal

pub returns : goal.returns
returns c = record { goes = goes_trans c.args.at.now c.clause_root.new.at c.with_clause.new.at (goes_trans c.args.at.now c.clause_head.new.at c.clause_root.new.at c.clause_head.ensures.goes c.clause_root.ensures.goes) c.with_clause.ensures.goes }

pub returns-in_default : goal.returns-in_default
returns-in_default c = record { goes = goes_trans c.args.at.now c.clause_head.new.at c.clause_root.new.at c.clause_head.ensures.goes c.clause_root.ensures.goes }

pub returns-in_err-head : goal.returns-in_err-head
returns-in_err-head c = record { goes = c.clause_head.ensures.goes }

pub returns-in_err-root : goal.returns-in_err-root
returns-in_err-root c = record { goes = goes_trans c.args.at.now c.clause_head.new.at c.clause_root.new.at c.clause_head.ensures.goes c.clause_root.ensures.goes }

pub returns-in_err-tokens-in-Some : goal.returns-in_err-tokens-in-Some
returns-in_err-tokens-in-Some c = record { goes = c.clause_head.ensures.goes }
