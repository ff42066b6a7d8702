use Rattle.model_checks.proofs.UsedTwice.{principal}
use Rattle.model_checks.proofs.kept.an_inner_binding_is_principal.Goals as goal

pub returns : goal.returns
returns c = principal
