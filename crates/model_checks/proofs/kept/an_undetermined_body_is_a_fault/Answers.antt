use Rattle.model_checks.proofs.Undetermined.{is_a_fault}
use Rattle.model_checks.proofs.kept.an_undetermined_body_is_a_fault.Goals as goal

pub returns : goal.returns
returns c = is_a_fault
