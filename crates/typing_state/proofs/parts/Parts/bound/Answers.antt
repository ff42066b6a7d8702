use Rattle.typing_state.proofs.Going.{goes_refl}
use Rattle.typing_state.proofs.parts.Parts.bound.Goals as goal

pub returns-clause-goes : goal.returns-clause-goes
returns-clause-goes c = c.lost.ensures.goes

pub returns-in-Entry-clause-goes : goal.returns-in-Entry-clause-goes
returns-in-Entry-clause-goes c = goes_refl c.args.self.now

pub returns-in-Hole-clause-goes : goal.returns-in-Hole-clause-goes
returns-in-Hole-clause-goes c = goes_refl c.args.self.now

pub returns-in_err-lost-in-Nothing-clause-goes : goal.returns-in_err-lost-in-Nothing-clause-goes
returns-in_err-lost-in-Nothing-clause-goes c = c.lost.ensures.goes

pub returns-in_err-path-clause-goes : goal.returns-in_err-path-clause-goes
returns-in_err-path-clause-goes c = goes_refl c.args.self.now

pub returns-in_err-share_entry-in-Entry-clause-goes : goal.returns-in_err-share_entry-in-Entry-clause-goes
returns-in_err-share_entry-in-Entry-clause-goes c = goes_refl c.args.self.now
