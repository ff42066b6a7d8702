use Rattle.std.proofs.Common.{◌≡◌, map, drop}
use Rattle.grammar_model.specs.Tables.{first_spot}
use Rattle.syntax_rows.specs.Numbers.{key_number}
use Rattle.syntax_rows.specs.View.{table_of, edge_of, last_of}
use Rattle.syntax_rows.proofs.places.first_spot.Given as goal

-- the first spot among those left is the first of all
abbrev pub invariant-loop-edge : goal.invariant-loop-edge
invariant-loop-edge l = first_spot (table_of l.table) l.row (last_of l.last) (key_number l.key) (map edge_of (drop l.edge-index l.next)) ≡ first_spot (table_of l.table) l.row (last_of l.last) (key_number l.key) (map edge_of l.next)
