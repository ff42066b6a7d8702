use Rattle.model_checks.proofs.SealedType.{scope, is_a_fault}
use Rattle.model_checks.proofs.kept.a_sealed_type_is_a_fault.Goals as goal

pub returns : goal.returns
returns c = (scope, is_a_fault)
