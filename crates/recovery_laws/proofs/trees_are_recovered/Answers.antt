use Rattle.recovery_laws.proofs.Laws.{recovered}
use Rattle.recovery_laws.proofs.trees_are_recovered.Goals as goal

pub returns : goal.returns
returns c = recovered
