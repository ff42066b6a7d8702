use Rattle.std.proofs.Common.{ℕ, ◌<◌, Some, ◌≡◌, length}
use Rattle.std.specs.Prelude.{slice_get}
use Rattle.type_nodes.specs.Views.{numbers}
use Rattle.type_tests.proofs.checked.are_nodes.Given as goal

abbrev pub invariant-loop-node : goal.invariant-loop-node
invariant-loop-node l = (k n : ℕ) → k < l.node-index → slice_get (numbers l.nodes) k ≡ Some n → n < length l.store.nodes
