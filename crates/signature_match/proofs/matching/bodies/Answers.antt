use Rattle.typing_state.proofs.Going.{goes_trans}
use Rattle.signature_match.proofs.matching.bodies.Goals as goal

pub returns-clause-goes : goal.returns-clause-goes
returns-clause-goes c = goes_trans c.args.at.now c.renewed_body.new.at c.body_for.new.at c.renewed_body.ensures.goes c.body_for.ensures.goes

pub returns-in_err-body-clause-goes : goal.returns-in_err-body-clause-goes
returns-in_err-body-clause-goes c = goes_trans c.args.at.now c.renewed_body.new.at c.body_for.new.at c.renewed_body.ensures.goes c.body_for.ensures.goes

pub returns-in_err-wanted_body-clause-goes : goal.returns-in_err-wanted_body-clause-goes
returns-in_err-wanted_body-clause-goes c = c.renewed_body.ensures.goes
