use Rattle.typing_laws.proofs.Existing.{under, environment_exists}
use Rattle.typing_laws.proofs.generalising.substitutions_of_environments_exist.Goals as goal

pub returns : goal.returns
returns c = λ s env. (under s env, environment_exists s env)
