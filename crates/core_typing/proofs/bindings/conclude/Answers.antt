use Rattle.std.proofs.Common.{refl}
use Rattle.core_typing.proofs.bindings.conclude.Goals as goal

pub returns-clause-carries : goal.returns-clause-carries
returns-clause-carries c = record { asked = c.in_ok-pattern_has.ensures.carries; matched = refl; right = refl; judged = c.in_ok-generalises.ensures.general }
