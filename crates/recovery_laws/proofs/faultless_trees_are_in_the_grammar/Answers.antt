use Rattle.recovery_laws.proofs.Laws.{faultless}
use Rattle.recovery_laws.proofs.faultless_trees_are_in_the_grammar.Goals as goal

pub returns : goal.returns
returns c = faultless
