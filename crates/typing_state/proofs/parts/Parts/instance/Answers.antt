use Rattle.std.specs.Prelude.{Ok}
use Rattle.typing_state.proofs.Going.{instance_goes}
use Rattle.typing_state.proofs.parts.Parts.instance.Goals as goal

pub returns-in_ok-instance-clause-goes : goal.returns-in_ok-instance-clause-goes
returns-in_ok-instance-clause-goes c = instance_goes (Ok c.in_ok-instance.instance) c.args.self.now c.instantiate.new.store c.args.root.0 c.min-level.result c.in_ok-instance.ensures.instance c.in_ok-instance.ensures.failed c.in_ok-instance.ensures.keeps

pub returns-else-is_node-clause-goes : goal.returns-else-is_node-clause-goes
returns-else-is_node-clause-goes c = c.var.ensures.goes
