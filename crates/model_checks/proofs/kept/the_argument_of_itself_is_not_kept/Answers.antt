use Rattle.model_checks.proofs.SelfApplied.{kept_ones}
use Rattle.model_checks.proofs.kept.the_argument_of_itself_is_not_kept.Goals as goal

pub returns : goal.returns
returns c = kept_ones
