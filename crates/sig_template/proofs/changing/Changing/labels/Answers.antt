use Rattle.type_reading.specs.Copying.{change_by}
use Rattle.sig_template.specs.Changed.{IsChangedLabel}
use Rattle.sig_template.specs.Live.{IsLiveLabel}
use Rattle.typing_state.proofs.Going.{goes_trans}
use Rattle.sig_template.proofs.Turning.{turns_more, turns_whole}
use Rattle.sig_template.proofs.changing.Changing.labels.Goals as goal

pub loop-label-preserved : goal.loop-label-preserved
loop-label-preserved c = record {
  goes = goes_trans c.args.at.now c.loop-label.at c.label.new.at c.loop-label.invariant.goes c.in_ok-label.ensures.goes;
  turns = turns_more c.args.self.changes.now IsLiveLabel (λ ns. IsChangedLabel ns (change_by c.args.self.changes.now)) c.args.old.now c.loop-label.new.items c.push.new.list.items c.loop-label.label-index
      c.label-item.result c.in_ok-label.field-0 c.args.at.now.store.nodes c.loop-label.at.store.nodes c.label.new.at.store.nodes c.args.copies.now c.loop-label.copies c.label.new.copies
      c.loop-label-test.true c.label-item.is c.in_ok-push.ensures.pushed (c.loop-label.invariant.turns) (c.in_ok-label.ensures.changed);
}

pub returns-clause-changed : goal.returns-clause-changed
returns-clause-changed c =
    turns_whole c.args.self.changes.now IsLiveLabel (λ ns. IsChangedLabel ns (change_by c.args.self.changes.now)) c.args.old.now c.loop-label.new.items c.loop-label.label-index
    c.args.at.now.store.nodes c.loop-label.at.store.nodes c.args.copies.now c.loop-label.copies c.loop-label-test.false (c.loop-label.invariant.turns)

pub returns-in_err-label-clause-goes : goal.returns-in_err-label-clause-goes
returns-in_err-label-clause-goes c = goes_trans c.args.at.now c.loop-label.at c.label.new.at c.loop-label.invariant.goes c.label.ensures.goes

pub returns-in_err-push-clause-goes : goal.returns-in_err-push-clause-goes
returns-in_err-push-clause-goes c = goes_trans c.args.at.now c.loop-label.at c.label.new.at c.loop-label.invariant.goes c.label.ensures.goes

pub returns-clause-goes : goal.returns-clause-goes
returns-clause-goes c = c.loop-label.invariant.goes
