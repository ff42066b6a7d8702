use Rattle.typing_state.proofs.Going.{goes_refl}
use Rattle.std.proofs.Common.{List, sym, subst}
use Rattle.type_terms.specs.declared.types.NodeRef.{NodeRef}
use Rattle.module_steps.specs.Closing.{HasOpenValue, Finds}
use Rattle.module_steps.proofs.Finding.{closes}
use Rattle.module_steps.proofs.closing.ask_closed.Goals as goal

pub returns-clause-closes : goal.returns-clause-closes
returns-clause-closes c =
    let there = HasOpenValue c.args.at.now.store.nodes c.args.scope c.args.body.now in
    closes c.tell_open.result c.deref.result.now c.args.body.now c.args.at.now c.tell_open.new.at c.args.span c.args.scope
    (subst (λ (ns : List NodeRef). Finds there ns c.deref.result.now) c.new-free.ensures.items
    (subst (λ (ns : List NodeRef). Finds there c.new-free.result.items ns) (sym c.deref.ensures.value) c.in_ok-add_in_sig.ensures)) c.tell_open.ensures.told

pub returns-clause-goes : goal.returns-clause-goes
returns-clause-goes c = c.tell_open.ensures.goes

pub returns-in_err-add_in_sig-clause-goes : goal.returns-in_err-add_in_sig-clause-goes
returns-in_err-add_in_sig-clause-goes c = goes_refl c.args.at.now
