use Rattle.env_table.specs.Index.{named_key, origin_key}
use Rattle.env_table.proofs.Forks.{more_indexed}
use Rattle.env_table.proofs.env.Env.add.Goals as goal

pub invariant_of-result : goal.invariant_of-result
invariant_of-result c = (
  more_indexed named_key c.self.inside.links c.in_ok-linked_before.field-0 c.self.inside.index c.in_ok-index.index c.args.entry.value c.self.invariant.0 c.in_ok-index.ensures c.in_ok-linked_before.ensures,
  more_indexed origin_key c.self.inside.links c.in_ok-linked_before.field-0 c.self.inside.origins c.in_ok-origins.origins c.args.entry.value c.self.invariant.1 c.in_ok-origins.ensures c.in_ok-linked_before.ensures,
)
