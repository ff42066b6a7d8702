use Rattle.typing_laws.proofs.Choices.{free_renamed}
use Rattle.typing_laws.proofs.choosing.free_variables_are_renamed.Goals as goal

pub returns : goal.returns
returns c = free_renamed
