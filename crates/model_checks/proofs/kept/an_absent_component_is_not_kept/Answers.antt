use Rattle.model_checks.proofs.AbsentComponent.{kept_ones}
use Rattle.model_checks.proofs.kept.an_absent_component_is_not_kept.Goals as goal

pub returns : goal.returns
returns c = kept_ones
