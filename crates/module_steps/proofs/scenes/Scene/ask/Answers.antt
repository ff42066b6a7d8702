use Rattle.typing_state.proofs.Going.{goes_refl}
use Rattle.module_steps.proofs.scenes.Scene.ask.Goals as goal

pub returns-else-branch-clause-goes : goal.returns-else-branch-clause-goes
returns-else-branch-clause-goes c = goes_refl c.args.at.now

pub returns-in_err-note-clause-goes : goal.returns-in_err-note-clause-goes
returns-in_err-note-clause-goes c = goes_refl c.args.at.now

pub returns-in_err-twice-clause-goes : goal.returns-in_err-twice-clause-goes
returns-in_err-twice-clause-goes c = c.twice.ensures.goes

pub returns-in_ok-twice-clause-goes : goal.returns-in_ok-twice-clause-goes
returns-in_ok-twice-clause-goes c = c.twice.ensures.goes
