use Rattle.typing_laws.proofs.Choices.{choices_renamed}
use Rattle.typing_laws.proofs.choosing.most_general_choices_are_renamed.Goals as goal

pub returns : goal.returns
returns c = choices_renamed
