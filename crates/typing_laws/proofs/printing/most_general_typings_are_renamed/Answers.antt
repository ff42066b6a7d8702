use Rattle.typing_laws.proofs.Alike.{are_renamed}
use Rattle.typing_laws.proofs.printing.most_general_typings_are_renamed.Goals as goal

pub returns : goal.returns
returns c = are_renamed
