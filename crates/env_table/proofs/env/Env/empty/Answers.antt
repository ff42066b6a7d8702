use Rattle.std.proofs.Common.{refl}
use Rattle.env_table.specs.Index.{IsIndex}
use Rattle.env_table.proofs.env.Env.empty.Goals as goal

pub invariant_of-result : goal.invariant_of-result
unfolding IsIndex
invariant_of-result c = (λ ks. refl, λ ks. refl)
