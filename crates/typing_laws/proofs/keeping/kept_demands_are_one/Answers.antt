use Rattle.typing_laws.proofs.Decided.{are_one}
use Rattle.typing_laws.proofs.keeping.kept_demands_are_one.Goals as goal

pub returns : goal.returns
returns c = are_one
