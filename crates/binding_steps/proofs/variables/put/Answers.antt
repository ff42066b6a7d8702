use Rattle.binding_steps.specs.Variables.{has}
use Rattle.binding_steps.proofs.VariableLaws.{name_put}
use Rattle.binding_steps.proofs.variables.put.Goals as goal

pub returns-in-Ok : goal.returns-in-Ok
returns-in-Ok c = λ q. name_put (has c.args.names.now q) (has c.insert.new.self q) c.args.name.now q (c.in-Ok.ensures.updates.0 (record { ref_ptr = (0, 0); now = q }))
