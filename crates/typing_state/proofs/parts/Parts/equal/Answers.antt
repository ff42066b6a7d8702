use Rattle.typing_state.proofs.Going.{goes_trans}
use Rattle.typing_state.proofs.parts.Parts.equal.Goals as goal

pub returns-in-Err-NoMemory-clause-goes : goal.returns-in-Err-NoMemory-clause-goes
returns-in-Err-NoMemory-clause-goes c = c.unify.ensures.goes

pub returns-in-Ok-clause-goes : goal.returns-in-Ok-clause-goes
returns-in-Ok-clause-goes c = c.unify.ensures.goes

pub returns-in_err-differ-in-Err-Clash-clause-goes : goal.returns-in_err-differ-in-Err-Clash-clause-goes
returns-in_err-differ-in-Err-Clash-clause-goes c = goes_trans c.args.self.now c.unify.new.self c.differ.new.self c.unify.ensures.goes c.differ.ensures.goes

pub returns-in_ok-differ-in-Err-Clash-clause-goes : goal.returns-in_ok-differ-in-Err-Clash-clause-goes
returns-in_ok-differ-in-Err-Clash-clause-goes c = goes_trans c.args.self.now c.unify.new.self c.differ.new.self c.unify.ensures.goes c.differ.ensures.goes
