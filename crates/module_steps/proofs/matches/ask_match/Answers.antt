use Rattle.typing_state.proofs.Going.{goes_trans}
use Rattle.module_steps.proofs.Asked.{match_asked}
use Rattle.module_steps.proofs.matches.ask_match.Goals as goal

pub returns-clause-asked : goal.returns-clause-asked
returns-clause-asked c = match_asked c.tell_mismatch.result c.args.at.now c.match_sig.new.at c.tell_mismatch.new.at c.args.span c.args.actual.now c.args.wanted.now c.in_ok-mismatch.mismatch
    c.in_ok-mismatch.ensures.told c.in_ok-mismatch.ensures.mismatch c.in_ok-mismatch.ensures.goes.faults c.tell_mismatch.ensures.told

pub returns-clause-goes : goal.returns-clause-goes
returns-clause-goes c = goes_trans c.args.at.now c.match_sig.new.at c.tell_mismatch.new.at c.match_sig.ensures.goes c.tell_mismatch.ensures.goes

pub returns-in_err-mismatch-clause-goes : goal.returns-in_err-mismatch-clause-goes
returns-in_err-mismatch-clause-goes c = c.match_sig.ensures.goes
