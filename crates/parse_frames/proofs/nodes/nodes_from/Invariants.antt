use Rattle.std.proofs.Common.{◌≡◌, ◌≤◌, ◌++◌, length, map, min}
use Rattle.syntax_tree.specs.View.{node_view}
use Rattle.parse_frames.specs.Frames.{nodes_in, running_notes}
use Rattle.parse_frames.specs.View.{parts_notes, parts_view}
use Rattle.parse_frames.proofs.nodes.nodes_from.Given as goal

-- the nodes so far and those left are all, and at least so many are left
abbrev pub invariant-loop-rest : goal.invariant-loop-rest
invariant-loop-rest l = record {
  all : map (λ n. node_view n.value) l.nodes.items ++ nodes_in (parts_view l.rest) ≡ nodes_in (parts_view l.parts);
  told : parts_notes l.rest ≡ running_notes (parts_view l.rest);
  enough : min l.from (length (nodes_in (parts_view l.parts))) ≤ length (nodes_in (parts_view l.rest));
}
