use Rattle.std.proofs.Common.{drop}
use Rattle.typing_rows.specs.Valued.{rights_of}
use Rattle.value_forms.proofs.ValueLaws.{LeftToAdd}
use Rattle.value_forms.proofs.values.push_rights.Given as goal

abbrev pub invariant-loop-binding : goal.invariant-loop-binding
invariant-loop-binding l = LeftToAdd rights_of l.bindings (drop l.binding-index l.bindings) l.fn.parts.items l.parts.items
