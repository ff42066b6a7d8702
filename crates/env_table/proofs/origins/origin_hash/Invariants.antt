use Rattle.std.proofs.Common.{◌≡◌, ◌<◌, drop}
use Rattle.type_terms.specs.Views.{path_of}
use Rattle.env_table.specs.Index.{path_hash_from, hash_of_path}
use Rattle.env_table.proofs.origins.origin_hash.Given as goal

abbrev pub invariant-loop-number : goal.invariant-loop-number
invariant-loop-number l = (l.hash < 65536) × (path_hash_from l.hash (drop l.number-index l.number-items) ≡ hash_of_path (path_of l.fn.origin))
