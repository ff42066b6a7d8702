use Rattle.model_checks.proofs.AbsentComponent.{is_a_fault}
use Rattle.model_checks.proofs.kept.an_absent_component_is_a_fault.Goals as goal

pub returns : goal.returns
returns c = is_a_fault
