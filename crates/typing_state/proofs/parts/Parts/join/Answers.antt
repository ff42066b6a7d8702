use Rattle.typing_state.proofs.parts.Parts.join.Goals as goal

pub returns-in-Err-Clash-clause-goes : goal.returns-in-Err-Clash-clause-goes
returns-in-Err-Clash-clause-goes c = c.unify.ensures.goes

pub returns-in-Err-NoMemory-clause-goes : goal.returns-in-Err-NoMemory-clause-goes
returns-in-Err-NoMemory-clause-goes c = c.unify.ensures.goes

pub returns-in-Ok-clause-goes : goal.returns-in-Ok-clause-goes
returns-in-Ok-clause-goes c = c.unify.ensures.goes
