use Rattle.typing_state.proofs.Going.{goes_refl, generalised_goes}
use Rattle.typing_state.proofs.parts.Parts.generalise.Goals as goal

pub returns-then-not-is_node-clause-goes : goal.returns-then-not-is_node-clause-goes
returns-then-not-is_node-clause-goes c = goes_refl c.args.self.now

pub returns-clause-goes : goal.returns-clause-goes
returns-clause-goes c = generalised_goes c.generalise.result c.args.self.now c.generalise.new.store c.args.root.0 c.args.self.now.level c.generalise.ensures.bound c.generalise.ensures.failed c.generalise.ensures.keeps
