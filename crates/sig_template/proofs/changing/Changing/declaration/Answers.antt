use Rattle.typing_state.proofs.Going.{goes_trans}
use Rattle.std.proofs.Common.{refl}
use Rattle.type_nodes.specs.Nodes.{IsNode}
use Rattle.env_table.specs.declared.entries.Declaration.{Declaration}
use Rattle.type_reading.specs.declared.changes.Changes.{Changes}
use Rattle.type_reading.specs.Copying.{change_by, IsChanged}
use Rattle.sig_template.specs.Changed.{IsChangedShape, IsChangedDeclaration}
use Rattle.sig_template.specs.Live.{IsLiveShape, IsLiveDeclaration}
use Rattle.sig_template.proofs.Turning.{turns_then, owned_turns}
use Rattle.sig_template.proofs.changing.Changing.declaration.Goals as goal

pub returns-clause-changed : goal.returns-clause-changed
returns-clause-changed c =
    let changes : Changes = c.args.self.changes.now in
    let old : Declaration = c.args.old.now in
    let new : Declaration = record { arity = old.arity; origin = c.in_ok-origin.field-0; defines = c.in_ok-defined.field-0; root = c.in_ok-root.root; shape = c.in_ok-shape.field-0 } in
    owned_turns c.owned.result new changes (λ ns. IsLiveDeclaration ns old) (λ ns d. IsChangedDeclaration ns (change_by changes) old d)
    c.args.at.now.store.nodes c.shape.new.at.store.nodes c.args.copies.now c.shape.new.copies c.owned.ensures
    (turns_then changes (λ ns. IsNode ns old.root.0) (λ ns. IsChanged ns (change_by changes) old.root.0 new.root.0) (λ ns. IsLiveShape ns old.shape) (λ ns. IsChangedShape ns (change_by changes) old.shape new.shape)
    (λ ns. IsLiveDeclaration ns old) (λ ns. IsChangedDeclaration ns (change_by changes) old new)
    c.args.at.now.store.nodes c.ty.new.at.store.nodes c.shape.new.at.store.nodes c.args.copies.now c.ty.new.copies c.shape.new.copies
    (λ ns live. live.0) (λ ns live. live.1)
    (λ ns root shape. record { arity = refl; origin = c.in_ok-origin.ensures; root = root; shape = shape })
    c.in_ok-root.ensures.changed c.in_ok-shape.ensures.changed)

pub returns-in_err-root-clause-goes : goal.returns-in_err-root-clause-goes
returns-in_err-root-clause-goes c = c.ty.ensures.goes

pub returns-in_err-origin-clause-goes : goal.returns-in_err-origin-clause-goes
returns-in_err-origin-clause-goes c = c.ty.ensures.goes

pub returns-in_err-defined-clause-goes : goal.returns-in_err-defined-clause-goes
returns-in_err-defined-clause-goes c = c.ty.ensures.goes

pub returns-in_err-shape-clause-goes : goal.returns-in_err-shape-clause-goes
returns-in_err-shape-clause-goes c = goes_trans c.args.at.now c.ty.new.at c.shape.new.at c.ty.ensures.goes c.shape.ensures.goes

pub returns-clause-goes : goal.returns-clause-goes
returns-clause-goes c = goes_trans c.args.at.now c.ty.new.at c.shape.new.at c.ty.ensures.goes c.shape.ensures.goes
