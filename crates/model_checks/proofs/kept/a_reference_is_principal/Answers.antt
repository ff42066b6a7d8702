use Rattle.model_checks.proofs.Reference.{principal}
use Rattle.model_checks.proofs.kept.a_reference_is_principal.Goals as goal

pub returns : goal.returns
returns c = principal
