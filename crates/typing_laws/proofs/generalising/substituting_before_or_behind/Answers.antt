use Rattle.typing_laws.proofs.Generalised.{generalised_is_under}
use Rattle.typing_laws.proofs.generalising.substituting_before_or_behind.Goals as goal

pub returns : goal.returns
returns c = generalised_is_under
