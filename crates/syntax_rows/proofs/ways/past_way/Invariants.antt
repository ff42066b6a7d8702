use Rattle.std.proofs.Common.{◌≡◌, map, drop}
use Rattle.recovery_model.specs.Numbers.{past_way}
use Rattle.syntax_rows.specs.Numbers.{key_number}
use Rattle.syntax_rows.specs.View.{table_of, edge_of, last_of}
use Rattle.syntax_rows.proofs.ways.past_way.Given as goal

-- the way past one of the operands left is the way past one of all
abbrev pub invariant-loop-edge : goal.invariant-loop-edge
invariant-loop-edge l = past_way (table_of l.table) l.row (last_of l.last) (key_number l.key) (map edge_of (drop l.edge-index l.next)) ≡ past_way (table_of l.table) l.row (last_of l.last) (key_number l.key) (map edge_of l.next)
