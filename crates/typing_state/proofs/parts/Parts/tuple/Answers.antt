use Rattle.typing_state.proofs.Going.{made_goes}
use Rattle.typing_state.proofs.parts.Parts.tuple.Goals as goal

pub returns-then-are_nodes-clause-goes : goal.returns-then-are_nodes-clause-goes
returns-then-are_nodes-clause-goes c = made_goes c.tuple.result c.args.self.now c.tuple.new.self _ c.tuple.ensures.made c.tuple.ensures.failed c.tuple.ensures.keeps

pub returns-else-are_nodes-clause-goes : goal.returns-else-are_nodes-clause-goes
returns-else-are_nodes-clause-goes c = c.var.ensures.goes
