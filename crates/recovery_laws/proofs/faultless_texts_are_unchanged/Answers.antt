use Rattle.recovery_laws.proofs.Promises.{unchanged}
use Rattle.recovery_laws.proofs.faultless_texts_are_unchanged.Goals as goal

pub returns : goal.returns
returns c = unchanged
