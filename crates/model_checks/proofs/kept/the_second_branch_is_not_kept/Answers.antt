use Rattle.model_checks.proofs.BranchesDiffer.{kept_ones}
use Rattle.model_checks.proofs.kept.the_second_branch_is_not_kept.Goals as goal

pub returns : goal.returns
returns c = kept_ones
