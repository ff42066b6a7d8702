use Rattle.typing_laws.proofs.Generalised.{instances_from_before}
use Rattle.typing_laws.proofs.generalising.instances_come_from_before.Goals as goal

pub returns : goal.returns
returns c = instances_from_before
