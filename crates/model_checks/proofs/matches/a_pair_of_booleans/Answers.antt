use Rattle.std.proofs.Common.{refl}
use Rattle.match_model.specs.Shown.{at_end, by_constructor, by_default, here}
use Rattle.model_checks.proofs.matches.a_pair_of_booleans.Goals as goal

pub returns-clause-shown : goal.returns-clause-shown
returns-clause-shown c = by_constructor refl refl (here (by_default refl (by_default refl at_end)))
