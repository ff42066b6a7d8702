use Rattle.std.proofs.Common.{arith}
use Rattle.std.proofs.lemmas.Grind.{common_steps}
use Rattle.syntax_tree.proofs.Lists.{map_reverse}
use Rattle.query_engine.proofs.typed_nodes.typed_around.Goals as goal

pub returns : goal.returns
returns c = grind (arith, common_steps, map_reverse)
