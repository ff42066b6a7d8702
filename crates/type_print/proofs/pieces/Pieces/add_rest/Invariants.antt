use Rattle.std.proofs.Common.{◌≡◌, ◌++◌, ◌≤◌, drop, length}
use Rattle.type_nodes.specs.Views.{numbers}
use Rattle.type_print.specs.Pieces.{parts_of, rest_parts, within_of, text_of_sign}
use Rattle.type_print.proofs.pieces.Pieces.add_rest.Given as goal

abbrev pub invariant-loop-k : goal.invariant-loop-k
invariant-loop-k l = (l.k ≤ length l.types) × (parts_of l.self ≡ rest_parts (within_of l.within) (text_of_sign l.between) (numbers (drop l.k l.types)) ++ parts_of l.fn.self)

abbrev pub decreases-loop-k : goal.decreases-loop-k
decreases-loop-k l = l.k
