use Rattle.std.proofs.Common.{◌∙◌}
use Rattle.env_table.specs.Index.{IsIndex, bits_of}
use Rattle.env_table.proofs.env.Env.with_hash.Goals as goal

pub returns : goal.returns
unfolding IsIndex
returns c = rw (← c.hash.ensures, ← c.self.view_is) (c.bucket.ensures ∙ c.self.invariant.0 (bits_of 16 c.hash.result))
