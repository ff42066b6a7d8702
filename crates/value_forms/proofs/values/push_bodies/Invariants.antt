use Rattle.std.proofs.Common.{◌≡◌, map, drop}
use Rattle.row_parts.specs.Numbered.{operand_view}
use Rattle.typing_rows.specs.Valued.{are_unguarded, bodies_of}
use Rattle.value_forms.proofs.ValueLaws.{LeftToAdd}
use Rattle.value_forms.proofs.values.push_bodies.Given as goal

abbrev pub invariant-loop-case : goal.invariant-loop-case
invariant-loop-case l = record {
  guards : are_unguarded (map operand_view l.cases) ≡ are_unguarded (map operand_view (drop l.case-index l.cases));
  bodies : LeftToAdd bodies_of l.cases (drop l.case-index l.cases) l.fn.parts.items l.parts.items;
}
