use Rattle.model_checks.proofs.BranchesDiffer.{scope, is_a_fault}
use Rattle.model_checks.proofs.kept.the_second_branch_is_a_fault.Goals as goal

pub returns : goal.returns
returns c = (scope, is_a_fault)
