use Rattle.std.proofs.Common.{◌≡◌, ◌++◌, map}
use Rattle.text_terms.specs.Bytes.{str_bytes}
use Rattle.type_print.specs.Ways.{way_view}
use Rattle.type_print.proofs.ways.names_of_way.Given as goal

abbrev pub invariant-loop-rest : goal.invariant-loop-rest
invariant-loop-rest l = map str_bytes l.names.items ++ way_view l.rest ≡ way_view l.way
