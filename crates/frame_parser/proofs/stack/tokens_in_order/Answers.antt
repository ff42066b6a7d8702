use Rattle.std.proofs.Common.{map, reverse, ◌++◌, ◌∙◌, ap, sym, append-nil}
use Rattle.syntax_tree.specs.View.{tok_of}
use Rattle.syntax_tree.proofs.Lists.{map_reverse}
use Rattle.frame_parser.specs.Shown.{tokens_view}
use Rattle.frame_parser.proofs.stack.tokens_in_order.Goals as goal

pub returns : goal.returns
returns c =
    ap (map tok_of) c.reverse.ensures.items ∙ map_reverse tok_of c.loop-left.found.items
    ∙ ap reverse (sym (append-nil (map tok_of c.loop-left.found.items)) ∙ ap (λ r. map tok_of c.loop-left.found.items ++ tokens_view r) (sym c.in_default.is) ∙ c.loop-left.invariant)
