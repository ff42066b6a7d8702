use Rattle.model_checks.proofs.WholeRecord.{kept_ones}
use Rattle.model_checks.proofs.kept.a_record_keeps_all.Goals as goal

pub returns : goal.returns
returns c = kept_ones
