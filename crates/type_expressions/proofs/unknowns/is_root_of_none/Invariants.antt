use Rattle.std.specs.Prelude.{◌≡◌, ◌≢◌, ℕ, ◌<◌, Some, slice_get}
use Rattle.type_nodes.specs.Links.{root as root_of}
use Rattle.type_nodes.specs.Views.{numbers}
use Rattle.type_expressions.proofs.unknowns.is_root_of_none.Given as goal

abbrev pub invariant-loop-node : goal.invariant-loop-node
invariant-loop-node l = (k m : ℕ) → k < l.node-index → slice_get (numbers l.nodes) k ≡ Some m → root_of l.at.store.nodes m ≢ l.root.0
