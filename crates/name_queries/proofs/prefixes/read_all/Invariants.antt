use Rattle.std.proofs.Common.{◌≡◌, drop}
use Rattle.query_model.specs.Prefixes.{at_start, read_all}
use Rattle.name_queries.specs.Prefixes.{read_of}
use Rattle.name_queries.proofs.prefixes.read_all.Given as goal

abbrev pub invariant-loop-byte : goal.invariant-loop-byte
invariant-loop-byte l = read_all (read_of l.read) (drop l.byte-index l.bytes) ≡ read_all at_start l.bytes
