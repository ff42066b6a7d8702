use Rattle.std.proofs.Common.{◌≡◌, map, drop}
use Rattle.std.specs.Option.{option_or}
use Rattle.syntax_rows.specs.View.{edge_of}
use Rattle.syntax_rows.proofs.LastEdge.{last_in_edges}
use Rattle.syntax_rows.proofs.ways.last_spot.Given as goal

-- the last of those left, or the last so far, is the last of all
abbrev pub invariant-loop-edge : goal.invariant-loop-edge
invariant-loop-edge l = option_or (last_in_edges (map edge_of (drop l.edge-index l.next))) l.last ≡ last_in_edges (map edge_of l.next)
