use Rattle.typing_state.proofs.Going.{goes_refl}
use Rattle.sig_template.proofs.Reals.{unknown_stood}
use Rattle.sig_template.proofs.realising.Realised.root_for.Goals as goal

pub returns-then-branch-clause-known : goal.returns-then-branch-clause-known
returns-then-branch-clause-known c =
    unknown_stood c.opened_copy.result c.args.root c.args.older c.args.at.now.store.nodes c.in_ok-has_unknown.field-0 c.if-root-older.true c.in_ok-has_unknown.ensures c.if-branch.true

pub returns-in_err-has_unknown-clause-goes : goal.returns-in_err-has_unknown-clause-goes
returns-in_err-has_unknown-clause-goes c = goes_refl c.args.at.now

pub returns-then-branch-clause-goes : goal.returns-then-branch-clause-goes
returns-then-branch-clause-goes c = c.opened_copy.ensures.goes

pub returns-else-root-older-clause-goes : goal.returns-else-root-older-clause-goes
returns-else-root-older-clause-goes c = goes_refl c.args.at.now
