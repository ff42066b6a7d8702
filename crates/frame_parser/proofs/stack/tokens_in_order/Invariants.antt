use Rattle.std.proofs.Common.{◌≡◌, map, ◌++◌}
use Rattle.syntax_tree.specs.View.{tok_of}
use Rattle.frame_parser.specs.Shown.{tokens_view}
use Rattle.frame_parser.proofs.stack.tokens_in_order.Given as goal

-- those found so far and those left are all
abbrev pub invariant-loop-left : goal.invariant-loop-left
invariant-loop-left l = map tok_of l.found.items ++ tokens_view l.left ≡ tokens_view l.tokens
