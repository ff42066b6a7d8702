use Rattle.std.proofs.Common.{◌+◌, ◌*◌, take}
use Rattle.std.specs.Prelude.{All}
use Rattle.std.specs.List.{AllZip}
use Rattle.typing_state.specs.Goes.{Goes}
use Rattle.type_reading.specs.Copying.{change_by}
use Rattle.sig_template.specs.Turns.{Turns, IsLiveThrough, IsTurnedEntry}
use Rattle.sig_template.proofs.changing.Changing.+changing.Given as goal

abbrev pub decreases-what : goal.decreases-what
decreases-what l = 3 * l.depth.0

abbrev pub decreases-entry : goal.decreases-entry
decreases-entry l = 3 * l.depth.0 + 1

abbrev pub decreases-entries : goal.decreases-entries
decreases-entries l = 3 * l.depth.0 + 2

abbrev pub decreases-sig : goal.decreases-sig
decreases-sig l = 3 * l.depth.0

abbrev pub decreases-template : goal.decreases-template
decreases-template l = 3 * l.depth.0

abbrev pub invariant-entries-loop-entry : goal.invariant-entries-loop-entry
invariant-entries-loop-entry l = record {
  goes : Goes l.fn.at l.at;
  turns : Turns l.self.changes.now (λ ns. All (λ r. IsLiveThrough ns r.value) l.old) (λ ns. AllZip (λ r s. IsTurnedEntry ns (change_by l.self.changes.now) r.value s.value) (take l.entry-index l.old) l.new.items) l.fn.at.store.nodes l.at.store.nodes l.fn.copies l.copies;
}
