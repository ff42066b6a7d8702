use Rattle.shown_alike.proofs.Faults.{values_faults_one}
use Rattle.prelude_checks.proofs.Ones.{firsts_one}
use Rattle.prelude_checks.proofs.faults_of_values_are_one.Goals as goal

pub returns : goal.returns
returns c = λ items faults others values f g. values_faults_one values f g (firsts_one f.env g.env f.first g.first)
