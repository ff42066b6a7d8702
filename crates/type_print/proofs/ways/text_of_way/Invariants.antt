use Rattle.std.proofs.Common.{◌≡◌, ◌≤◌, map, drop, length}
use Rattle.std.specs.Prelude.{string_bytes}
use Rattle.text_terms.specs.Bytes.{str_bytes}
use Rattle.type_print.specs.Paths.{way_text}
use Rattle.type_print.proofs.ways.text_of_way.Given as goal

abbrev pub invariant-loop-k : goal.invariant-loop-k
invariant-loop-k l = (l.k ≤ length l.names.items) × (string_bytes l.text ≡ way_text (map str_bytes (drop l.k l.names.items)))

abbrev pub decreases-loop-k : goal.decreases-loop-k
decreases-loop-k l = l.k
