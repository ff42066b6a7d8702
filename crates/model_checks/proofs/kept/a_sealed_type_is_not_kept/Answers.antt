use Rattle.model_checks.proofs.SealedType.{kept_ones}
use Rattle.model_checks.proofs.kept.a_sealed_type_is_not_kept.Goals as goal

pub returns : goal.returns
returns c = kept_ones
