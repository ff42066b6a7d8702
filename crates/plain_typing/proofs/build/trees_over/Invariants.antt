use Rattle.std.proofs.Common.{◌≡◌, ◌++◌, length, map, option_map}
use Rattle.plain_model.specs.Plain as plain
use Rattle.syntax_tree.specs.View.{tok_of}
use Rattle.plain_typing.specs.View.{views}
use Rattle.plain_typing.proofs.build.trees_over.Given as goal

abbrev pub invariant-loop-left : goal.invariant-loop-left
invariant-loop-left l = option_map (λ ts. views l.items.items ++ ts) (plain.plain_trees (map tok_of l.left)) ≡ plain.plain_trees (map tok_of l.tokens)

abbrev pub decreases-loop-left : goal.decreases-loop-left
decreases-loop-left l = length l.left
