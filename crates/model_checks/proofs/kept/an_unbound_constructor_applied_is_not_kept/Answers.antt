use Rattle.model_checks.proofs.UnboundApplied.{kept_ones}
use Rattle.model_checks.proofs.kept.an_unbound_constructor_applied_is_not_kept.Goals as goal

pub returns : goal.returns
returns c = kept_ones
