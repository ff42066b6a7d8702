use Rattle.recovery_laws.proofs.Laws.{low}
use Rattle.recovery_laws.proofs.trees_are_low.Goals as goal

pub returns : goal.returns
returns c = low
