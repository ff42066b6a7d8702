use Rattle.std.proofs.Common.{◌+◌, ◌*◌, List, map, drop, Option}
use Rattle.type_nodes.specs.Nodes.{Node}
use Rattle.signature_model.specs.Failing.{Blame}
use Rattle.typing_state.specs.Goes.{Goes}
use Rattle.signature_match.specs.Telling.{TellsFirst}
use Rattle.signature_match.proofs.matching.+matching.Given as goal

abbrev pub decreases-match_entry : goal.decreases-match_entry
decreases-match_entry l = 3 * l.depth.0 + 2

abbrev pub decreases-match_component : goal.decreases-match_component
decreases-match_component l = 3 * l.depth.0 + 1

abbrev pub decreases-match_both : goal.decreases-match_both
decreases-match_both l = 3 * l.depth.0 + 1

abbrev pub decreases-meets : goal.decreases-meets
decreases-meets l = 3 * l.depth.0 + 1

abbrev pub decreases-first_failing : goal.decreases-first_failing
decreases-first_failing l = 3 * l.depth.0

abbrev pub decreases-functors_match : goal.decreases-functors_match
decreases-functors_match l = 3 * l.depth.0 + 1

abbrev pub decreases-match_parameter : goal.decreases-match_parameter
decreases-match_parameter l = 3 * l.depth.0

abbrev pub decreases-matches : goal.decreases-matches
decreases-matches l = 3 * l.depth.0 + 1

abbrev pub invariant-first_failing-loop-entry : goal.invariant-first_failing-loop-entry
invariant-first_failing-loop-entry l =
    Goes l.fn.at l.at ×
    ((new : List Node) (told : Option Blame) → TellsFirst l.round l.at.store.nodes new l.actual (map (λ r. r.value) (drop l.entry-index l.wanted)) told →
    TellsFirst l.round l.fn.at.store.nodes new l.actual (map (λ r. r.value) l.wanted) told)
