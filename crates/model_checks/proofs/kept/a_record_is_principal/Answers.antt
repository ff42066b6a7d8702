use Rattle.model_checks.proofs.WholeRecord.{principal}
use Rattle.model_checks.proofs.kept.a_record_is_principal.Goals as goal

pub returns : goal.returns
returns c = principal
