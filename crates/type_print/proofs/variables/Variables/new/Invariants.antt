use Rattle.std.proofs.Common.{◌≡◌, ℕ, drop}
use Rattle.std.specs.Prelude.{nat_eq, ◌||◌}
use Rattle.std.specs.HashSet.{contains}
use Rattle.type_nodes.specs.Views.{numbers}
use Rattle.type_print_model.specs.Variables.{is_among}
use Rattle.type_print.specs.Meeting.{roots_of}
use Rattle.type_print.proofs.variables.Variables.new.Given as goal

abbrev pub invariant-loop-node : goal.invariant-loop-node
invariant-loop-node l = (q : ℕ) → (contains nat_eq l.roots q || is_among q (roots_of l.store.nodes (numbers (drop l.node-index l.weak)))) ≡ is_among q (roots_of l.store.nodes (numbers l.weak))
