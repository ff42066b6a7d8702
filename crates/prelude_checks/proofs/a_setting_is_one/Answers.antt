use Rattle.prelude_checks.proofs.Ones.{settings_one}
use Rattle.prelude_checks.proofs.a_setting_is_one.Goals as goal

pub returns : goal.returns
returns c = settings_one
