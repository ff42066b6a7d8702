use Rattle.typing_laws.proofs.Choices.{weak_alike}
use Rattle.typing_laws.proofs.choosing.weak_variables_print_alike.Goals as goal

pub returns : goal.returns
returns c = weak_alike
