use Rattle.std.proofs.Common.{map}
use Rattle.syntax_tree.specs.View.{tok_of}
use Rattle.plain_typing.proofs.Trees.{trees_sized, trees_count}
use Rattle.plain_typing.proofs.build.plain_tree.Goals as goal

pub returns-clause-sized : goal.returns-clause-sized
returns-clause-sized c = trees_sized (map tok_of c.args.tokens.now) c.trees_over.result c.trees_over.ensures

pub returns-clause-count : goal.returns-clause-count
returns-clause-count c = trees_count c.args.tokens.now c.trees_over.result c.trees_over.ensures
