use Rattle.run_check.proofs.Known.{known_settled}
use Rattle.run_check.proofs.laws.known_replies_are_settled.Goals as goal

pub returns : goal.returns
returns c = known_settled
