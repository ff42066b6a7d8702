use Rattle.std.proofs.Common.{◌≡◌, map, drop, find}
use Rattle.query_model.specs.NameTokens.{ends_at}
use Rattle.name_queries.specs.NameTokens.{name_of}
use Rattle.name_queries.proofs.name_tokens.name_before.Given as goal

abbrev pub invariant-loop-name : goal.invariant-loop-name
invariant-loop-name l = find (ends_at l.offset) (map name_of (drop l.name-index l.names)) ≡ find (ends_at l.offset) (map name_of l.names)
