use Rattle.typing_state.proofs.Going.{goes_refl}
use Rattle.std.proofs.Common.{rules, ◌≡◌}
use Rattle.signature_match.specs.Comparing.{one_has_none}
use Rattle.signature_match.proofs.Compared.{by_exception_types, answers_apart}
use Rattle.signature_match.proofs.compare.same_exception.Goals as goal

pub returns-then-actual-wanted-clause-judged : goal.returns-then-actual-wanted-clause-judged
returns-then-actual-wanted-clause-judged c = one_has_none (answers_apart c.args.actual.now.has_argument c.args.wanted.now.has_argument c.if-actual-wanted.true)

pub returns-clause-judged : goal.returns-clause-judged
returns-clause-judged c =
    let same : c.args.actual.now.has_argument ≡ c.args.wanted.now.has_argument = search rules in
    by_exception_types c.types_agree.result c.args.at.now.store.nodes c.types_agree.new.at.store.nodes c.args.actual.now c.args.wanted.now same c.types_agree.ensures.compared

pub returns-clause-goes : goal.returns-clause-goes
returns-clause-goes c = c.types_agree.ensures.goes

pub returns-then-actual-wanted-clause-goes : goal.returns-then-actual-wanted-clause-goes
returns-then-actual-wanted-clause-goes c = goes_refl c.args.at.now
