use Rattle.work_laws.proofs.Numbers.{taken_behind}
use Rattle.work_laws.proofs.few_tokens_are_taken_of_a_text.Goals as goal

pub returns : goal.returns
returns c = taken_behind
