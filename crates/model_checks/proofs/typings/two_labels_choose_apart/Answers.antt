use Rattle.std.proofs.Common.{refl}
use Rattle.model_checks.proofs.typings.two_labels_choose_apart.Goals as goal

pub returns-clause-label_a : goal.returns-clause-label_a
returns-clause-label_a c = refl

pub returns-clause-label_b : goal.returns-clause-label_b
returns-clause-label_b c = refl
