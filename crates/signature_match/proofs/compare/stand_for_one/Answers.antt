use Rattle.typing_state.proofs.Going.{goes_refl}
use Rattle.scheme_match.specs.Covering.{Compared}
use Rattle.signature_match.proofs.Unknowns.{asks_nothing}
use Rattle.signature_match.proofs.compare.stand_for_one.Goals as goal

pub returns-then-branch-clause-compared : goal.returns-then-branch-clause-compared
returns-then-branch-clause-compared c =
    asks_nothing c.args.at.now.store.nodes c.args.actual.now.root c.args.wanted.now.root c.in_ok-is_either_unknown.field-0 c.are_one_over.result
    (Compared c.args.at.now.store.nodes c.are_one_over.new.at.store.nodes c.args.actual.now.root.0 c.args.wanted.now.root.0) c.if-branch.true c.in_ok-is_either_unknown.ensures

pub returns-else-branch-clause-goes : goal.returns-else-branch-clause-goes
returns-else-branch-clause-goes c = c.covers.ensures.goes

pub returns-in_err-is_either_unknown-clause-goes : goal.returns-in_err-is_either_unknown-clause-goes
returns-in_err-is_either_unknown-clause-goes c = goes_refl c.args.at.now

pub returns-then-branch-clause-goes : goal.returns-then-branch-clause-goes
returns-then-branch-clause-goes c = c.are_one_over.ensures.goes
