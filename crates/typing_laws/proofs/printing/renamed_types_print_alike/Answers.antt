use Rattle.typing_laws.proofs.Alike.{print_alike}
use Rattle.typing_laws.proofs.printing.renamed_types_print_alike.Goals as goal

pub returns : goal.returns
returns c = print_alike
