use Rattle.std.proofs.Common.{refl}
use Rattle.match_model.specs.Shown.{at_end, by_default}
use Rattle.model_checks.proofs.matches.a_list_without_the_empty_one.Goals as goal

pub returns-clause-shown : goal.returns-clause-shown
returns-clause-shown c = by_default refl at_end
