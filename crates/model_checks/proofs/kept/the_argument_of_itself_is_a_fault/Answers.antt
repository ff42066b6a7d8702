use Rattle.model_checks.proofs.SelfApplied.{scope, is_a_fault}
use Rattle.model_checks.proofs.kept.the_argument_of_itself_is_a_fault.Goals as goal

pub returns : goal.returns
returns c = (scope, is_a_fault)
