use Rattle.typing_state.proofs.Going.{goes_refl}
use Rattle.std.proofs.Common.{refl}
use Rattle.type_nodes.specs.Nodes.{IsNode}
use Rattle.env_table.specs.declared.entries.Constructor.{Constructor}
use Rattle.type_reading.specs.declared.changes.Changes.{Changes}
use Rattle.type_reading.specs.Copying.{change_by, IsChanged}
use Rattle.sig_template.specs.Changed.{IsChangedConstructor}
use Rattle.sig_template.specs.Live.{IsLiveConstructor}
use Rattle.sig_template.proofs.Turning.{turns_as}
use Rattle.sig_template.proofs.changing.Changing.constructor.Goals as goal

pub returns-clause-changed : goal.returns-clause-changed
returns-clause-changed c =
    let changes : Changes = c.args.self.changes.now in
    let old : Constructor = c.args.old.now in
    let new : Constructor = record { name = c.in_ok-share.field-0; root = c.in_ok-ty.field-0; has_argument = old.has_argument } in
    turns_as changes (λ ns. IsNode ns old.root.0) (λ ns. IsChanged ns (change_by changes) old.root.0 new.root.0) (λ ns. IsLiveConstructor ns old) (λ ns. IsChangedConstructor ns (change_by changes) old new)
    c.args.at.now.store.nodes c.ty.new.at.store.nodes c.args.copies.now c.ty.new.copies
    (λ ns live. live) (λ ns root. record { name = c.in_ok-share.ensures; has_argument = refl; root = root }) c.in_ok-ty.ensures.changed

pub returns-in_err-share-clause-goes : goal.returns-in_err-share-clause-goes
returns-in_err-share-clause-goes c = goes_refl c.args.at.now

pub returns-in_err-ty-clause-goes : goal.returns-in_err-ty-clause-goes
returns-in_err-ty-clause-goes c = c.ty.ensures.goes

pub returns-clause-goes : goal.returns-clause-goes
returns-clause-goes c = c.ty.ensures.goes
