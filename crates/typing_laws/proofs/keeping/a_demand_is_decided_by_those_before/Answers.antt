use Rattle.typing_laws.proofs.Decided.{decided}
use Rattle.typing_laws.proofs.keeping.a_demand_is_decided_by_those_before.Goals as goal

pub returns : goal.returns
returns c = decided
