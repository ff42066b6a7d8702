use Rattle.type_reading.specs.Copying.{change_by}
use Rattle.sig_template.specs.Changed.{IsChangedConstructor}
use Rattle.sig_template.specs.Live.{IsLiveConstructor}
use Rattle.typing_state.proofs.Going.{goes_trans}
use Rattle.sig_template.proofs.Turning.{turns_more, turns_whole}
use Rattle.sig_template.proofs.changing.Changing.constructors.Goals as goal

pub loop-constructor-preserved : goal.loop-constructor-preserved
loop-constructor-preserved c = record {
  goes = goes_trans c.args.at.now c.loop-constructor.at c.constructor.new.at c.loop-constructor.invariant.goes c.in_ok-constructor.ensures.goes;
  turns = turns_more c.args.self.changes.now IsLiveConstructor (λ ns. IsChangedConstructor ns (change_by c.args.self.changes.now)) c.args.old.now c.loop-constructor.new.items c.push.new.list.items c.loop-constructor.constructor-index
      c.constructor-item.result c.in_ok-constructor.field-0 c.args.at.now.store.nodes c.loop-constructor.at.store.nodes c.constructor.new.at.store.nodes c.args.copies.now c.loop-constructor.copies c.constructor.new.copies
      c.loop-constructor-test.true c.constructor-item.is c.in_ok-push.ensures.pushed (c.loop-constructor.invariant.turns) (c.in_ok-constructor.ensures.changed);
}

pub returns-clause-changed : goal.returns-clause-changed
returns-clause-changed c =
    turns_whole c.args.self.changes.now IsLiveConstructor (λ ns. IsChangedConstructor ns (change_by c.args.self.changes.now)) c.args.old.now c.loop-constructor.new.items c.loop-constructor.constructor-index
    c.args.at.now.store.nodes c.loop-constructor.at.store.nodes c.args.copies.now c.loop-constructor.copies c.loop-constructor-test.false (c.loop-constructor.invariant.turns)

pub returns-in_err-constructor-clause-goes : goal.returns-in_err-constructor-clause-goes
returns-in_err-constructor-clause-goes c = goes_trans c.args.at.now c.loop-constructor.at c.constructor.new.at c.loop-constructor.invariant.goes c.constructor.ensures.goes

pub returns-in_err-push-clause-goes : goal.returns-in_err-push-clause-goes
returns-in_err-push-clause-goes c = goes_trans c.args.at.now c.loop-constructor.at c.constructor.new.at c.loop-constructor.invariant.goes c.constructor.ensures.goes

pub returns-clause-goes : goal.returns-clause-goes
returns-clause-goes c = c.loop-constructor.invariant.goes
