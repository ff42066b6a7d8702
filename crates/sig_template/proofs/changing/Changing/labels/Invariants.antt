use Rattle.std.proofs.Common.{take}
use Rattle.std.specs.Prelude.{All}
use Rattle.std.specs.List.{AllZip}
use Rattle.typing_state.specs.Goes.{Goes}
use Rattle.type_reading.specs.Copying.{change_by}
use Rattle.sig_template.specs.Changed.{IsChangedLabel}
use Rattle.sig_template.specs.Live.{IsLiveLabel}
use Rattle.sig_template.specs.Turns.{Turns}
use Rattle.sig_template.proofs.changing.Changing.labels.Given as goal

abbrev pub invariant-loop-label : goal.invariant-loop-label
invariant-loop-label l = record {
  goes : Goes l.fn.at l.at;
  turns : Turns l.self.changes.now (λ ns. All (IsLiveLabel ns) l.old) (λ ns. AllZip (IsChangedLabel ns (change_by l.self.changes.now)) (take l.label-index l.old) l.new.items) l.fn.at.store.nodes l.at.store.nodes l.fn.copies l.copies;
}
