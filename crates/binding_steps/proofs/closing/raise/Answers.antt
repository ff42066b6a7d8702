use Rattle.binding_steps.proofs.ClosingLaws.{level_goes}
use Rattle.binding_steps.proofs.closing.raise.Goals as goal

pub returns-clause-goes : goal.returns-clause-goes
returns-clause-goes c = level_goes c.args.at.now _
