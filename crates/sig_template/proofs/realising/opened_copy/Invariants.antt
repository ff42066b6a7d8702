use Rattle.level_unify.specs.Copies.{Extends}
use Rattle.typing_state.specs.Goes.{Goes}
use Rattle.sig_template.proofs.realising.opened_copy.Given as goal

abbrev pub invariant-loop-n : goal.invariant-loop-n
invariant-loop-n l = Goes l.fn.at l.at × Extends l.fn.at.store.nodes l.at.store.nodes
