use Rattle.typing_state.proofs.Going.{goes_refl}
use Rattle.type_terms.specs.Views.{path_of}
use Rattle.type_reading.specs.declared.changes.Real.{Real}
use Rattle.type_reading.specs.Copying.{paths_of}
use Rattle.sig_template.specs.Abstract.{abstract_named}
use Rattle.sig_template.proofs.Same.{real_same}
use Rattle.std.proofs.Common.{ap}
use Rattle.sig_template.proofs.templates.with_type.Goals as goal

pub returns-clause-sig : goal.returns-clause-sig
returns-clause-sig c =
    let real : Real = record { origin = c.in_ok-copied_origin.field-0; root = c.args.root; arity = c.args.arity } in
    real_same c.args.at.now.store.nodes c.changed.new.at.store.nodes (abstract_named c.args.template.now c.args.name.now c.args.arity) (path_of c.in-Some.origin.now)
    (paths_of c.no_changes-changes.result.made.items) c.no_changes-changes.result.number c.push.new.list.items c.no_changes-changes.result.real.items real
    c.args.template.now.sig.value c.deref-2.result.now c.in_ok-changed.field-0.value c.in-Some.ensures c.in_ok-copied_origin.ensures.path
    (ap paths_of c.no_changes-changes.ensures.made) c.no_changes-changes.ensures.real c.in_ok-push.ensures.pushed c.deref-2.ensures c.in_ok-changed.ensures.changed

pub returns-in_default-clause-goes : goal.returns-in_default-clause-goes
returns-in_default-clause-goes c = goes_refl c.args.at.now

pub returns-in_err-made-clause-goes : goal.returns-in_err-made-clause-goes
returns-in_err-made-clause-goes c = goes_refl c.args.at.now

pub returns-in_err-copied_origin-clause-goes : goal.returns-in_err-copied_origin-clause-goes
returns-in_err-copied_origin-clause-goes c = goes_refl c.args.at.now

pub returns-in_err-push-clause-goes : goal.returns-in_err-push-clause-goes
returns-in_err-push-clause-goes c = goes_refl c.args.at.now

pub returns-in_err-changed-clause-goes : goal.returns-in_err-changed-clause-goes
returns-in_err-changed-clause-goes c = c.changed.ensures.goes

pub returns-clause-goes : goal.returns-clause-goes
returns-clause-goes c = c.changed.ensures.goes
