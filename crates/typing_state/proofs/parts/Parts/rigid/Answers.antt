use Rattle.typing_state.proofs.Going.{made_goes}
use Rattle.typing_state.proofs.parts.Parts.rigid.Goals as goal

pub returns-clause-goes : goal.returns-clause-goes
returns-clause-goes c = made_goes c.rigid.result c.args.self.now c.rigid.new.self _ c.rigid.ensures.made c.rigid.ensures.failed c.rigid.ensures.keeps
