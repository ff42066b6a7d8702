use Rattle.std.proofs.Common.{◌≡◌, ◌<◌, drop}
use Rattle.env_table.specs.Views.{kind_of}
use Rattle.env_table.specs.Index.{hash_from, hash_of}
use Rattle.env_table.proofs.index.hash.Given as goal

abbrev pub invariant-loop-byte : goal.invariant-loop-byte
invariant-loop-byte l = (l.hash < 65536) × (hash_from l.hash (drop l.byte-index l.byte-items) ≡ hash_of (kind_of l.fn.kind) l.fn.name)
