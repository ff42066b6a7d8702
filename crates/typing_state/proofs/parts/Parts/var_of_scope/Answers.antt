use Rattle.typing_state.proofs.Going.{made_goes}
use Rattle.typing_state.proofs.parts.Parts.var_of_scope.Goals as goal

pub returns-clause-goes : goal.returns-clause-goes
returns-clause-goes c = made_goes c.var.result c.args.self.now c.var.new.self _ c.var.ensures.made c.var.ensures.failed c.var.ensures.keeps
