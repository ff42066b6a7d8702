use Rattle.std.proofs.Common.{◌≡◌, ◌++◌, map, drop}
use Rattle.syntax_tree.specs.View.{child_view, forest_of, node_view, tok_of}
use Rattle.row_parts.specs.Numbered.{tokens_from, tokens_in}
use Rattle.row_parts.proofs.taken.tokens.Given as goal

abbrev pub invariant-loop-child : goal.invariant-loop-child
invariant-loop-child l =
    map (λ t. tok_of t.now) l.found.items ++ tokens_from l.slot (forest_of (map child_view (drop l.child-index l.child-items)))
    ≡ tokens_in (node_view l.node) l.slot
