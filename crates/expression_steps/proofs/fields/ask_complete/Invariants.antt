use Rattle.std.proofs.Common.{◌≡◌, drop}
use Rattle.typing_state.specs.Goes.{Goes, Silent}
use Rattle.record_rows.specs.Completing.{absent_here}
use Rattle.expression_steps.specs.Records.{names_written}
use Rattle.expression_steps.proofs.fields.ask_complete.Given as goal

abbrev pub invariant-loop-label : goal.invariant-loop-label
invariant-loop-label l =
    Goes l.fn.at l.at × Silent l.fn.at l.at × (l.at ≡ l.fn.at) × (absent_here (drop l.label-index l.label-items) (names_written l.written.items) ≡ absent_here l.label-items (names_written l.written.items))
