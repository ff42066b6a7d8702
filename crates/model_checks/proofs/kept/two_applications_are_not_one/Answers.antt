use Rattle.model_checks.proofs.TwoOfOne.{kept_ones}
use Rattle.model_checks.proofs.kept.two_applications_are_not_one.Goals as goal

pub returns : goal.returns
returns c = kept_ones
