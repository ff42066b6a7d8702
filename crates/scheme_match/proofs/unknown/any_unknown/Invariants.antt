use Rattle.std.proofs.Common.{◌≡◌, ◌≢◌, ℕ, ◌<◌, Some}
use Rattle.std.specs.Prelude.{slice_get}
use Rattle.type_nodes.specs.Links.{reading}
use Rattle.type_nodes.specs.Views.{numbers}
use Rattle.scheme_match.specs.Unknown.{unknown_node}
use Rattle.scheme_match.proofs.unknown.any_unknown.Given as goal

abbrev pub invariant-loop-n : goal.invariant-loop-n
invariant-loop-n l = (k m : ℕ) → k < l.n-index → slice_get (numbers l.nodes) k ≡ Some m → reading l.store.nodes m ≢ Some unknown_node
