use Rattle.typing_state.proofs.Going.{goes_refl}
use Rattle.typing_state.proofs.Faulting.{told_aloud}
use Rattle.typing_state.proofs.parts.Parts.report.Goals as goal

pub returns-in-Aloud-clause-told : goal.returns-in-Aloud-clause-told
returns-in-Aloud-clause-told c = told_aloud c.push.result c.args.self.now.telling _ _ c.args.span c.args.kind c.args.message c.in-Aloud.is c.push.ensures.pushed

pub returns-in-Quiet-clause-goes : goal.returns-in-Quiet-clause-goes
returns-in-Quiet-clause-goes c = goes_refl c.args.self.now
