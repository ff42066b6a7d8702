use Rattle.typing_state.proofs.Going.{goes_refl}
use Rattle.std.proofs.Common.{refl, ap, ◌∙◌}
use Rattle.type_reading.specs.Copying.{paths_of}
use Rattle.sig_template.specs.Ways.{sig_of}
use Rattle.sig_template.specs.Changed.{made_of}
use Rattle.signature_match.proofs.Puts.{renews, renewed_template}
use Rattle.signature_match.proofs.matching.renewed_body.Goals as goal

pub returns-clause-renewed : goal.returns-clause-renewed
returns-clause-renewed c =
    let old = c.args.at.now.store.nodes in
    let new = c.changed.new.at.store.nodes in
    let body = c.args.body.now in
    renewed_template old new c.args.number c.args.parameter.now body (record { made = c.in_ok-copied_origins-2.field-0; sig = c.in_ok-changed.field-0 })
    (c.in_ok-copied_origins-2.ensures ∙ ap paths_of c.deref-2.ensures.value)
    (renews old new (record { made = c.in_ok-copied_origins.field-0; number = c.args.number; real = c.new.result }) (made_of c.args.parameter.now) c.args.number c.deref-3.result.now (sig_of body)
    c.in_ok-changed.field-0.value c.new.ensures.items refl (c.in_ok-copied_origins.ensures ∙ ap paths_of c.deref.ensures.value) c.deref-3.ensures c.in_ok-changed.ensures.changed)

pub returns-clause-goes : goal.returns-clause-goes
returns-clause-goes c = c.changed.ensures.goes

pub returns-in_err-changed-clause-goes : goal.returns-in_err-changed-clause-goes
returns-in_err-changed-clause-goes c = c.changed.ensures.goes

pub returns-in_err-copied_origins-2-clause-goes : goal.returns-in_err-copied_origins-2-clause-goes
returns-in_err-copied_origins-2-clause-goes c = goes_refl c.args.at.now

pub returns-in_err-copied_origins-clause-goes : goal.returns-in_err-copied_origins-clause-goes
returns-in_err-copied_origins-clause-goes c = goes_refl c.args.at.now
