use Rattle.std.proofs.Common.{◌≡◌, ◌++◌, map, drop, string_bytes}
use Rattle.std.specs.List.{join_with_byte}
use Rattle.text_terms.specs.Bytes.{str_bytes}
use Rattle.name_queries.proofs.PrefixParts.{pointed}
use Rattle.name_queries.proofs.completions.dotted.Given as goal

abbrev pub invariant-loop-name : goal.invariant-loop-name
invariant-loop-name l = string_bytes l.text ++ pointed (map str_bytes (drop l.name-index l.others)) ≡ join_with_byte 46 (map str_bytes l.fn.names)
