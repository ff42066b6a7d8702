use Rattle.typing_state.proofs.Going.{goes_trans}
use Rattle.signature_typing.proofs.clauses.behind_clauses.Goals as goal

pub returns : goal.returns
returns c = record { goes = c.loop-clause.invariant }

pub returns-in_err-template : goal.returns-in_err-template
returns-in_err-template c = record { goes = goes_trans c.args.at.now c.loop-clause.at c.behind_written.new.at c.loop-clause.invariant c.behind_written.ensures.goes }
