use Rattle.typing_state.proofs.Going.{goes_refl}
use Rattle.typing_state.proofs.parts.Parts.covers.Goals as goal

pub returns-else-is_node-clause-goes : goal.returns-else-is_node-clause-goes
returns-else-is_node-clause-goes c = goes_refl c.args.self.now
