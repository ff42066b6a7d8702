use Rattle.prelude_checks.proofs.Ones.{firsts_one}
use Rattle.prelude_checks.proofs.the_first_environment_is_one.Goals as goal

pub returns : goal.returns
returns c = firsts_one
