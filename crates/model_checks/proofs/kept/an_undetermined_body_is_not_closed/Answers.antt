use Rattle.model_checks.proofs.Undetermined.{kept_ones}
use Rattle.model_checks.proofs.kept.an_undetermined_body_is_not_closed.Goals as goal

pub returns : goal.returns
returns c = kept_ones
