use Rattle.std.proofs.Common.{◌≡◌, ◌++◌, ◌≤◌, drop, length}
use Rattle.type_nodes.specs.Views.{numbers}
use Rattle.type_print.specs.Meeting.{moves_of, entries}
use Rattle.type_print.proofs.variables.push_all.Given as goal

abbrev pub invariant-loop-k : goal.invariant-loop-k
invariant-loop-k l = (l.k ≤ length l.nodes) × (moves_of l.left.items ≡ entries (numbers (drop l.k l.nodes)) ++ moves_of l.fn.left.items)

abbrev pub decreases-loop-k : goal.decreases-loop-k
decreases-loop-k l = l.k
