use Rattle.typing_state.proofs.Going.{bound_goes, goes_refl}
use Rattle.typing_state.proofs.parts.Parts.quantify.Goals as goal

pub returns-then-is_free-clause-goes : goal.returns-then-is_free-clause-goes
returns-then-is_free-clause-goes c = bound_goes c.quantify.result c.args.self.now c.quantify.new.self c.args.n.0 c.quantify.ensures.done c.quantify.ensures.failed c.quantify.ensures.keeps

pub returns-else-is_node-clause-goes : goal.returns-else-is_node-clause-goes
returns-else-is_node-clause-goes c = goes_refl c.args.self.now
