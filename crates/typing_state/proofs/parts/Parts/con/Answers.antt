use Rattle.typing_state.proofs.Going.{made_goes}
use Rattle.typing_state.proofs.parts.Parts.con.Goals as goal

pub returns-then-are_nodes-clause-goes : goal.returns-then-are_nodes-clause-goes
returns-then-are_nodes-clause-goes c = made_goes c.con.result c.args.self.now c.con.new.self _ c.con.ensures.made c.con.ensures.failed c.con.ensures.keeps

pub returns-else-are_nodes-clause-goes : goal.returns-else-are_nodes-clause-goes
returns-else-are_nodes-clause-goes c = c.var.ensures.goes
