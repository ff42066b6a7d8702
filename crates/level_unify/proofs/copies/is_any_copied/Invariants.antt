use Rattle.std.proofs.Common.{◌≡◌, ℕ, ◌<◌, Some, None}
use Rattle.std.specs.Prelude.{slice_get}
use Rattle.type_nodes.specs.Links.{root}
use Rattle.type_nodes.specs.Views.{numbers}
use Rattle.level_unify.specs.Copies.{table_of}
use Rattle.level_unify.proofs.copies.is_any_copied.Given as goal

abbrev pub invariant-loop-node : goal.invariant-loop-node
invariant-loop-node l = (k m : ℕ) → k < l.node-index → slice_get (numbers l.nodes) k ≡ Some m → table_of l.copies (root l.store.nodes m) ≡ None
