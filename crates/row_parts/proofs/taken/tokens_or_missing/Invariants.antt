use Rattle.std.proofs.Common.{◌≡◌, ◌++◌, map, drop}
use Rattle.syntax_tree.specs.View.{child_view, forest_of, node_view}
use Rattle.row_parts.specs.Numbered.{token_view, tokens_or_none_from, tokens_or_none_in}
use Rattle.row_parts.proofs.taken.tokens_or_missing.Given as goal

abbrev pub invariant-loop-child : goal.invariant-loop-child
invariant-loop-child l =
    map token_view l.found.items ++ tokens_or_none_from l.slot (forest_of (map child_view (drop l.child-index l.child-items)))
    ≡ tokens_or_none_in (node_view l.node) l.slot
