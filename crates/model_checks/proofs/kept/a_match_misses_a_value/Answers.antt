use Rattle.std.proofs.Common.{refl}
use Rattle.match_model.specs.Shown.{at_end, by_default}
use Rattle.model_checks.proofs.MissedValue.{kept_ones, principal}
use Rattle.model_checks.proofs.kept.a_match_misses_a_value.Goals as goal

pub returns-clause-keeps : goal.returns-clause-keeps
returns-clause-keeps c = kept_ones

pub returns-clause-principal : goal.returns-clause-principal
returns-clause-principal c = principal

pub returns-clause-missed : goal.returns-clause-missed
returns-clause-missed c = by_default refl at_end
