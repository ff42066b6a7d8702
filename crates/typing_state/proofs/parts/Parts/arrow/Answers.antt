use Rattle.typing_state.proofs.Going.{made_goes}
use Rattle.typing_state.proofs.parts.Parts.arrow.Goals as goal

pub returns-then-is_node-2-clause-goes : goal.returns-then-is_node-2-clause-goes
returns-then-is_node-2-clause-goes c = made_goes c.arrow.result c.args.self.now c.arrow.new.self _ c.arrow.ensures.made c.arrow.ensures.failed c.arrow.ensures.keeps

pub returns-else-is_node-clause-goes : goal.returns-else-is_node-clause-goes
returns-else-is_node-clause-goes c = c.var.ensures.goes
