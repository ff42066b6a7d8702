use Rattle.std.proofs.Common.{◌∙◌}
use Rattle.env_table.specs.Index.{IsIndex, bits_of}
use Rattle.env_table.proofs.env.Env.makers.Goals as goal

pub returns : goal.returns
unfolding IsIndex
returns c = rw (← c.origin_hash.ensures, ← c.self.view_is) (c.bucket.ensures ∙ c.self.invariant.1 (bits_of 16 c.origin_hash.result))
