use Rattle.recovery_laws.proofs.Promises.{still_faulty}
use Rattle.recovery_laws.proofs.faulty_texts_stay_faulty.Goals as goal

pub returns : goal.returns
returns c = still_faulty
