use Rattle.typing_state.proofs.Going.{goes_trans}
use Rattle.signature_match.proofs.Compared.{by_shapes, by_roots}
use Rattle.signature_match.proofs.compare.declares.Goals as goal

pub returns-then-branch-clause-judged : goal.returns-then-branch-clause-judged
returns-then-branch-clause-judged c =
    by_shapes c.shapes_agree.result c.args.at.now.store.nodes c.stand_for_one.new.at.store.nodes c.shapes_agree.new.at.store.nodes c.args.actual.now c.args.wanted.now
    c.in_ok-stand_for_one.field-0 c.if-branch.true c.in_ok-stand_for_one.ensures.compared c.shapes_agree.ensures.compared

pub returns-else-branch-clause-judged : goal.returns-else-branch-clause-judged
returns-else-branch-clause-judged c =
    by_roots c.args.at.now.store.nodes c.stand_for_one.new.at.store.nodes c.args.actual.now c.args.wanted.now c.in_ok-stand_for_one.field-0 c.if-branch.false c.in_ok-stand_for_one.ensures.compared

pub returns-else-branch-clause-goes : goal.returns-else-branch-clause-goes
returns-else-branch-clause-goes c = c.stand_for_one.ensures.goes

pub returns-in_err-stand_for_one-clause-goes : goal.returns-in_err-stand_for_one-clause-goes
returns-in_err-stand_for_one-clause-goes c = c.stand_for_one.ensures.goes

pub returns-then-branch-clause-goes : goal.returns-then-branch-clause-goes
returns-then-branch-clause-goes c = goes_trans c.args.at.now c.stand_for_one.new.at c.shapes_agree.new.at c.stand_for_one.ensures.goes c.shapes_agree.ensures.goes
