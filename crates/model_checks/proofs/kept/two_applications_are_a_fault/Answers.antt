use Rattle.model_checks.proofs.TwoOfOne.{scope, is_a_fault}
use Rattle.model_checks.proofs.kept.two_applications_are_a_fault.Goals as goal

pub returns : goal.returns
returns c = (scope, is_a_fault)
