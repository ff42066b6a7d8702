use Rattle.typing_state.proofs.Going.{goes_refl, goes_trans}
use Rattle.signature_match.proofs.compare.covers.Goals as goal

pub returns-else-branch-clause-goes : goal.returns-else-branch-clause-goes
returns-else-branch-clause-goes c = c.covers-else-branch.ensures.goes

pub returns-in_err-has_unknown-clause-goes : goal.returns-in_err-has_unknown-clause-goes
returns-in_err-has_unknown-clause-goes c = goes_refl c.args.at.now

pub returns-in_err-known-clause-goes : goal.returns-in_err-known-clause-goes
returns-in_err-known-clause-goes c = c.copied.ensures.goes

pub returns-in_ok-known-clause-goes : goal.returns-in_ok-known-clause-goes
returns-in_ok-known-clause-goes c = goes_trans c.args.at.now c.copied.new.at c.covers.new.self c.copied.ensures.goes c.covers.ensures.goes
