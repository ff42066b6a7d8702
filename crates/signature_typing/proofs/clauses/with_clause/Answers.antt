use Rattle.typing_state.proofs.Going.{goes_trans}
use Rattle.signature_typing.proofs.clauses.with_clause.Goals as goal

pub returns : goal.returns
returns c = record { goes = goes_trans c.args.at.now c.with_type.new.at c.given_or_told.new.at c.with_type.ensures.goes c.given_or_told.ensures.goes }

pub returns-in_err-given : goal.returns-in_err-given
returns-in_err-given c = record { goes = c.with_type.ensures.goes }
