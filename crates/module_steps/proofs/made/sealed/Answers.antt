use Rattle.std.proofs.lemmas.Result.{IfOk-weaker}
use Rattle.typing_state.proofs.Going.{goes_trans}
use Rattle.sig_template.specs.Ways.{sig_of}
use Rattle.sig_template.proofs.Later.{live_later}
use Rattle.module_steps.proofs.made.sealed.Goals as goal

pub returns-clause-made : goal.returns-clause-made
returns-clause-made c = IfOk-weaker c.behind.result _ _
    (λ m is. (
      c.in_ok-anew.anew,
      is,
      (
        c.in_ok-anew.ensures.made,
        λ live. (c.made_at.new.at.store.nodes, c.in_ok-anew.ensures.sig (live_later c.args.at.now.store.nodes c.ask_match.new.at.store.nodes c.ask_match.ensures.goes.types.nodes (sig_of c.args.template.now) live)),
      ),
    )) c.behind.ensures

pub returns-clause-goes : goal.returns-clause-goes
returns-clause-goes c = goes_trans c.args.at.now c.ask_match.new.at c.made_at.new.at c.ask_match.ensures.goes c.made_at.ensures.goes

pub returns-in_err-anew-clause-goes : goal.returns-in_err-anew-clause-goes
returns-in_err-anew-clause-goes c = goes_trans c.args.at.now c.ask_match.new.at c.made_at.new.at c.ask_match.ensures.goes c.made_at.ensures.goes

pub returns-in_err-ask_match-clause-goes : goal.returns-in_err-ask_match-clause-goes
returns-in_err-ask_match-clause-goes c = c.ask_match.ensures.goes
