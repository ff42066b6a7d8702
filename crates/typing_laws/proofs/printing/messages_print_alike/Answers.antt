use Rattle.typing_laws.proofs.Alike.{print_both_alike}
use Rattle.typing_laws.proofs.printing.messages_print_alike.Goals as goal

pub returns : goal.returns
returns c = print_both_alike
