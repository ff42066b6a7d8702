use Rattle.model_checks.proofs.LaterType.{kept_ones}
use Rattle.model_checks.proofs.kept.a_later_type_is_not_kept.Goals as goal

pub returns : goal.returns
returns c = kept_ones
