use Rattle.std.proofs.Common.{length}
use Rattle.name_tests.proofs.printer.+are_nodes.Given as goal

abbrev pub decreases-are_nodes : goal.decreases-are_nodes
decreases-are_nodes l = length l.nodes.now
