use Rattle.typing_state.proofs.Going.{goes_refl}
use Rattle.signature_match.proofs.matching.match_type.Goals as goal

pub returns-in-None-clause-goes : goal.returns-in-None-clause-goes
returns-in-None-clause-goes c = goes_refl c.args.at.now

pub returns-in-Some-clause-goes : goal.returns-in-Some-clause-goes
returns-in-Some-clause-goes c = goes_refl c.args.at.now

pub returns-in_err-met-in-Some-2-clause-goes : goal.returns-in_err-met-in-Some-2-clause-goes
returns-in_err-met-in-Some-2-clause-goes c = c.declares.ensures.goes

pub returns-in_ok-met-in-Some-2-clause-goes : goal.returns-in_ok-met-in-Some-2-clause-goes
returns-in_ok-met-in-Some-2-clause-goes c = c.declares.ensures.goes
