use Rattle.std.proofs.Common.{drop}
use Rattle.std.specs.Prelude.{All}
use Rattle.type_nodes.specs.Nodes.{IsNode}
use Rattle.type_nodes.specs.Views.{numbers}
use Rattle.typing_state.proofs.nodes.are_nodes.Given as goal

abbrev pub invariant-loop-n : goal.invariant-loop-n
invariant-loop-n l = All (IsNode l.store.nodes) (numbers (drop l.n-index l.nodes)) → All (IsNode l.store.nodes) (numbers l.nodes)
