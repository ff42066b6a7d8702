use Rattle.settled_laws.proofs.Laws.{settled_first}
use Rattle.settled_laws.proofs.trees_begin_with_settled_items.Goals as goal

pub returns : goal.returns
returns c = settled_first
