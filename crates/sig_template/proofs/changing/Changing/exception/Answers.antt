use Rattle.sig_template.proofs.Turning.{owned_turns}
use Rattle.sig_template.specs.Live.{IsLiveConstructor}
use Rattle.sig_template.specs.Changed.{IsChangedConstructor}
use Rattle.type_reading.specs.Copying.{change_by}
use Rattle.type_reading.specs.declared.changes.Changes.{Changes}
use Rattle.env_table.specs.declared.entries.Constructor.{Constructor}
use Rattle.sig_template.proofs.changing.Changing.exception.Goals as goal

pub returns-in_err-new-clause-goes : goal.returns-in_err-new-clause-goes
returns-in_err-new-clause-goes c = c.constructor.ensures.goes

pub returns-clause-goes : goal.returns-clause-goes
returns-clause-goes c = c.constructor.ensures.goes

pub returns-clause-changed : goal.returns-clause-changed
returns-clause-changed c =
    let changes : Changes = c.args.self.changes.now in
    let old : Constructor = c.args.old.now in
    owned_turns c.owned.result c.in_ok-new.new changes (λ ns. IsLiveConstructor ns old) (λ ns new. IsChangedConstructor ns (change_by changes) old new)
    c.args.at.now.store.nodes c.constructor.new.at.store.nodes c.args.copies.now c.constructor.new.copies c.owned.ensures c.in_ok-new.ensures.changed
