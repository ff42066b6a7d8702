use Rattle.typing_laws.proofs.Closed.{first_closed}
use Rattle.typing_laws.proofs.firsts.no_variable_is_free_in_a_first_environment.Goals as goal

pub returns : goal.returns
returns c = first_closed
