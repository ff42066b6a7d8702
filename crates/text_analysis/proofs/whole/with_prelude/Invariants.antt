use Rattle.std.proofs.Common.{drop, map}
use Rattle.syntax_tree.specs.View.{node_view}
use Rattle.prelude_checks.proofs.Steps.{TypesPrelude}
use Rattle.text_analysis.proofs.whole.with_prelude.Given as goal

abbrev pub invariant-loop-item : goal.invariant-loop-item
invariant-loop-item g l = TypesPrelude l.fn.at l.at l.scene l.number (map (λ n. node_view n.value) (drop l.item-index l.item-items))
