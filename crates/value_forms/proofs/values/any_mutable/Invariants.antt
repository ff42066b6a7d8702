use Rattle.std.proofs.Common.{◌≡◌, drop}
use Rattle.record_rows.specs.NonExpansive.{none_set}
use Rattle.value_forms.proofs.values.any_mutable.Given as goal

abbrev pub invariant-loop-label : goal.invariant-loop-label
invariant-loop-label l = none_set (drop l.label-index l.labels) ≡ none_set l.labels
