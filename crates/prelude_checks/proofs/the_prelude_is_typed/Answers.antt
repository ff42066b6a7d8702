use Rattle.prelude_checks.proofs.Behind.{prelude_known}
use Rattle.prelude_checks.proofs.the_prelude_is_typed.Goals as goal

pub returns : goal.returns
returns c = prelude_known
