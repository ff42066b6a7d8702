use Rattle.sig_template.proofs.Shapes.{shape_opaque, shape_variant, shape_labels}
use Rattle.typing_state.proofs.Going.{goes_refl}
use Rattle.sig_template.proofs.changing.Changing.shape.Goals as goal

pub returns-in_err-labels-in-Labels-clause-goes : goal.returns-in_err-labels-in-Labels-clause-goes
returns-in_err-labels-in-Labels-clause-goes c = c.labels.ensures.goes

pub returns-in-Opaque-clause-goes : goal.returns-in-Opaque-clause-goes
returns-in-Opaque-clause-goes c = goes_refl c.args.at.now

pub returns-in_ok-labels-in-Labels-clause-goes : goal.returns-in_ok-labels-in-Labels-clause-goes
returns-in_ok-labels-in-Labels-clause-goes c = c.labels.ensures.goes

pub returns-in_err-constructors-in-Variant-clause-goes : goal.returns-in_err-constructors-in-Variant-clause-goes
returns-in_err-constructors-in-Variant-clause-goes c = c.constructors.ensures.goes

pub returns-in_ok-constructors-in-Variant-clause-goes : goal.returns-in_ok-constructors-in-Variant-clause-goes
returns-in_ok-constructors-in-Variant-clause-goes c = c.constructors.ensures.goes

pub returns-in-Opaque-clause-changed : goal.returns-in-Opaque-clause-changed
returns-in-Opaque-clause-changed c = shape_opaque c.args.self.changes.now c.args.old.now c.args.at.now.store.nodes c.args.copies.now c.in-Opaque.is

pub returns-in_ok-constructors-in-Variant-clause-changed : goal.returns-in_ok-constructors-in-Variant-clause-changed
returns-in_ok-constructors-in-Variant-clause-changed c =
    shape_variant c.args.self.changes.now c.args.old.now c.in-Variant.constructors c.in_ok-constructors-in-Variant.field-0 c.deref.result.now
    c.args.at.now.store.nodes c.constructors.new.at.store.nodes c.args.copies.now c.constructors.new.copies c.in-Variant.is c.deref.ensures.value c.in_ok-constructors-in-Variant.ensures.changed

pub returns-in_ok-labels-in-Labels-clause-changed : goal.returns-in_ok-labels-in-Labels-clause-changed
returns-in_ok-labels-in-Labels-clause-changed c =
    shape_labels c.args.self.changes.now c.args.old.now c.in-Labels.labels c.in_ok-labels-in-Labels.field-0 c.deref-in-Labels.result.now
    c.args.at.now.store.nodes c.labels.new.at.store.nodes c.args.copies.now c.labels.new.copies c.in-Labels.is c.deref-in-Labels.ensures.value c.in_ok-labels-in-Labels.ensures.changed
