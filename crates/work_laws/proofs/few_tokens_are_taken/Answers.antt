use Rattle.work_laws.proofs.Numbers.{taken_tokens}
use Rattle.work_laws.proofs.few_tokens_are_taken.Goals as goal

pub returns : goal.returns
returns c = taken_tokens
