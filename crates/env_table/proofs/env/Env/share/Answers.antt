use Rattle.std.proofs.Common.{◌∙◌}
use Rattle.env_table.specs.Index.{IsIndex}
use Rattle.env_table.proofs.env.Env.share.Goals as goal

pub invariant_of-result : goal.invariant_of-result
unfolding IsIndex
invariant_of-result c = (
  λ ks. c.in_ok-share.ensures ks ∙ (c.self.invariant.0 ks ∙ rw c.in_ok-share_links.ensures),
  λ ks. c.in_ok-share-2.ensures ks ∙ (c.self.invariant.1 ks ∙ rw c.in_ok-share_links.ensures),
)
