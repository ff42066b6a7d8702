use Rattle.typing_state.proofs.Going.{goes_trans}
use Rattle.std.proofs.Common.{refl, ◌∙◌, ap}
use Rattle.typing_state.specs.declared.parts.Parts.{Parts}
use Rattle.type_reading.specs.Copying.{paths_of}
use Rattle.sig_template.proofs.Applying.{applied_by}
use Rattle.sig_template.proofs.templates.applied.Goals as goal

pub returns-clause-sig : goal.returns-clause-sig
returns-clause-sig c =
    applied_by c.args.at.now.store.nodes c.realisation.new.at.store.nodes c.changed.new.at.store.nodes c.close.new.at.store.nodes c.args.node c.args.argument.now c.args.parameter.now c.args.body.now _
    (paths_of c.in_ok-realised-2.field-0.items) c.in_ok-realised.realised c.deref-2.result.now c.in_ok-sig.sig.value c.in_ok-realised.ensures.realises c.in_ok-realised.ensures.declared c.in_ok-realised.ensures.extends
    (c.in_ok-realised-2.ensures ∙ ap paths_of c.deref.ensures.value) c.deref-2.ensures refl c.in_ok-sig.ensures.changed (λ none. ap (λ (at : Parts). at.store.nodes) (c.in_ok-close.ensures.none none))

pub returns-in_err-realised-clause-goes : goal.returns-in_err-realised-clause-goes
returns-in_err-realised-clause-goes c = c.realisation.ensures.goes

pub returns-in_err-realised-2-clause-goes : goal.returns-in_err-realised-2-clause-goes
returns-in_err-realised-2-clause-goes c = c.realisation.ensures.goes

pub returns-in_err-sig-clause-goes : goal.returns-in_err-sig-clause-goes
returns-in_err-sig-clause-goes c = goes_trans c.args.at.now c.realisation.new.at c.changed.new.at c.realisation.ensures.goes c.changed.ensures.goes

pub returns-in_err-close-clause-goes : goal.returns-in_err-close-clause-goes
returns-in_err-close-clause-goes c = goes_trans c.args.at.now c.changed.new.at c.close.new.at (goes_trans c.args.at.now c.realisation.new.at c.changed.new.at c.realisation.ensures.goes c.changed.ensures.goes) c.close.ensures.goes

pub returns-in_err-origins_at-clause-goes : goal.returns-in_err-origins_at-clause-goes
returns-in_err-origins_at-clause-goes c = goes_trans c.args.at.now c.changed.new.at c.close.new.at (goes_trans c.args.at.now c.realisation.new.at c.changed.new.at c.realisation.ensures.goes c.changed.ensures.goes) c.close.ensures.goes

pub returns-clause-goes : goal.returns-clause-goes
returns-clause-goes c = goes_trans c.args.at.now c.changed.new.at c.close.new.at (goes_trans c.args.at.now c.realisation.new.at c.changed.new.at c.realisation.ensures.goes c.changed.ensures.goes) c.close.ensures.goes
