use Rattle.typing_laws.proofs.Choices.{told_alike}
use Rattle.typing_laws.proofs.choosing.types_of_choices_print_alike.Goals as goal

pub returns : goal.returns
returns c = told_alike
