use Rattle.typing_laws.proofs.Free.{stays_closed}
use Rattle.typing_laws.proofs.generalising.closed_bodies_stay_closed.Goals as goal

pub returns : goal.returns
returns c = stays_closed
