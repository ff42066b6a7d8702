use Rattle.model_checks.proofs.Reference.{kept_ones}
use Rattle.model_checks.proofs.kept.a_reference_keeps_all.Goals as goal

pub returns : goal.returns
returns c = kept_ones
