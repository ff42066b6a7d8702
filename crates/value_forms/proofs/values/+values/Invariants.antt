use Rattle.std.proofs.Common.{◌+◌, ◌*◌, drop}
use Rattle.value_forms.proofs.ValueLaws.{ValuesLeft}
use Rattle.value_forms.proofs.values.+values.Given as goal

abbrev pub decreases-is_value : goal.decreases-is_value
decreases-is_value l = 3 * l.depth.0 + 2

abbrev pub decreases-are_values : goal.decreases-are_values
decreases-are_values l = 3 * l.depth.0

abbrev pub decreases-is_built : goal.decreases-is_built
decreases-is_built l = 3 * l.depth.0 + 1

abbrev pub decreases-is_match_value : goal.decreases-is_match_value
decreases-is_match_value l = 3 * l.depth.0 + 1

abbrev pub decreases-is_let_value : goal.decreases-is_let_value
decreases-is_let_value l = 3 * l.depth.0 + 1

abbrev pub decreases-is_record_value : goal.decreases-is_record_value
decreases-is_record_value l = 3 * l.depth.0 + 1

abbrev pub invariant-are_values-loop-part : goal.invariant-are_values-loop-part
invariant-are_values-loop-part l = ValuesLeft l.env l.parts (drop l.part-index l.parts)
