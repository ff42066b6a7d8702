use Rattle.std.proofs.Common.{◌≡◌, map, drop, find}
use Rattle.query_model.specs.NameTokens.{holds_offset}
use Rattle.name_queries.specs.NameTokens.{name_of}
use Rattle.name_queries.proofs.name_tokens.name_holding.Given as goal

abbrev pub invariant-loop-name : goal.invariant-loop-name
invariant-loop-name l = find (holds_offset l.offset) (map name_of (drop l.name-index l.names)) ≡ find (holds_offset l.offset) (map name_of l.names)
