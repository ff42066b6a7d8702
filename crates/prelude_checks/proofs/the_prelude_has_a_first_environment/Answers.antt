use Rattle.prelude_checks.proofs.Prelude.{first_names, is_first}
use Rattle.prelude_checks.proofs.the_prelude_has_a_first_environment.Goals as goal

pub returns : goal.returns
returns c = (first_names, is_first)
