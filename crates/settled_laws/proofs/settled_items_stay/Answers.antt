use Rattle.settled_laws.proofs.Laws.{settled_stay}
use Rattle.settled_laws.proofs.settled_items_stay.Goals as goal

pub returns : goal.returns
returns c = settled_stay
