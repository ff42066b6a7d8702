use Rattle.work_laws.proofs.Numbers.{split_tokens}
use Rattle.work_laws.proofs.tokens_before_a_place_are_the_first.Goals as goal

pub returns : goal.returns
returns c = split_tokens
