use Rattle.model_checks.proofs.UsedTwice.{kept_ones}
use Rattle.model_checks.proofs.kept.an_inner_binding_keeps_all.Goals as goal

pub returns : goal.returns
returns c = kept_ones
