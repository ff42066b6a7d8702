use Rattle.std.proofs.Common.{drop}
use Rattle.record_rows.specs.NonExpansive.{field_values}
use Rattle.value_forms.proofs.ValueLaws.{LeftToAdd}
use Rattle.value_forms.proofs.values.push_values.Given as goal

abbrev pub invariant-loop-field : goal.invariant-loop-field
invariant-loop-field l = LeftToAdd field_values l.fields (drop l.field-index l.fields) l.fn.values.items l.values.items
