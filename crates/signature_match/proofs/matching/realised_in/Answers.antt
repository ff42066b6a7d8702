use Rattle.typing_state.proofs.Going.{goes_trans}
use Rattle.std.proofs.Common.{ap}
use Rattle.typing_state.specs.declared.parts.Parts.{Parts}
use Rattle.signature_match.proofs.Puts.{put_into}
use Rattle.signature_match.proofs.matching.realised_in.Goals as goal

pub returns-clause-put : goal.returns-clause-put
returns-clause-put c = put_into c.args.at.now.store.nodes c.realisation.new.at.store.nodes c.changed.new.at.store.nodes c.close.new.at.store.nodes c.args.actual.now c.args.template.now
    c.in_ok-realised.realised c.args.sig.now c.in_ok-put.put.value c.in_ok-realised.ensures.realises c.in_ok-realised.ensures.extends c.in_ok-realised.ensures.declared c.in_ok-put.ensures.changed
    (λ none. ap (λ (at : Parts). at.store.nodes) (c.in_ok-close.ensures.none none))

pub returns-clause-goes : goal.returns-clause-goes
returns-clause-goes c = goes_trans c.args.at.now c.changed.new.at c.close.new.at (goes_trans c.args.at.now c.realisation.new.at c.changed.new.at c.realisation.ensures.goes c.changed.ensures.goes) c.close.ensures.goes

pub returns-in_err-close-clause-goes : goal.returns-in_err-close-clause-goes
returns-in_err-close-clause-goes c = goes_trans c.args.at.now c.changed.new.at c.close.new.at (goes_trans c.args.at.now c.realisation.new.at c.changed.new.at c.realisation.ensures.goes c.changed.ensures.goes) c.close.ensures.goes

pub returns-in_err-put-clause-goes : goal.returns-in_err-put-clause-goes
returns-in_err-put-clause-goes c = goes_trans c.args.at.now c.realisation.new.at c.changed.new.at c.realisation.ensures.goes c.changed.ensures.goes

pub returns-in_err-realised-clause-goes : goal.returns-in_err-realised-clause-goes
returns-in_err-realised-clause-goes c = c.realisation.ensures.goes
