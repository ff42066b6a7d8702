use Rattle.recovery_laws.proofs.Laws.{lossless}
use Rattle.recovery_laws.proofs.no_token_is_lost.Goals as goal

pub returns : goal.returns
returns c = lossless
