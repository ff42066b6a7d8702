use Rattle.std.proofs.Common.{[], refl}
use Rattle.typing_model.specs.Typings.{conditions_of}
use Rattle.typing_laws.proofs.Alike.{are_renamed, print_alike}
use Rattle.typing_laws.proofs.printing.principal_typings_print_alike.Goals as goal

pub returns : goal.returns
returns c = λ env text kept types others p q N scope declared n shown. print_alike N scope declared types others (are_renamed kept (conditions_of env text kept) types others p q) [] [] n shown (λ v o. refl)
