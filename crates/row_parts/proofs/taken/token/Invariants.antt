use Rattle.std.proofs.Common.{◌≡◌, map, drop}
use Rattle.syntax_tree.specs.View.{child_view, forest_of, node_view}
use Rattle.row_parts.specs.Numbered.{first_of, token_in, tokens_from}
use Rattle.row_parts.proofs.taken.token.Given as goal

abbrev pub invariant-loop-child : goal.invariant-loop-child
invariant-loop-child l = first_of (tokens_from l.slot (forest_of (map child_view (drop l.child-index l.child-items)))) ≡ token_in (node_view l.node) l.slot
