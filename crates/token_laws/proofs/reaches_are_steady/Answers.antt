use Rattle.token_laws.proofs.Steadies.{reached_steady}
use Rattle.token_laws.proofs.reaches_are_steady.Goals as goal

pub returns : goal.returns
returns c = reached_steady
