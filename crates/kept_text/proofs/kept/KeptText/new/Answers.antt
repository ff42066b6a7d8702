use Rattle.kept_text.proofs.Keeps.{kept_new}
use Rattle.kept_text.proofs.kept.KeptText.new.Goals as goal

pub invariant_of-result : goal.invariant_of-result
invariant_of-result c = kept_new c.new.result c.new-2.result.tokens c.new.ensures c.new-2.ensures.tokens
