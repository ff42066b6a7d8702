use Rattle.typing_state.proofs.Going.{goes_refl}
use Rattle.text_terms.specs.Bytes.{str_bytes}
use Rattle.std.proofs.Common.{rules}
use Rattle.signature_match.specs.Shapes.{ConstructorsFit}
use Rattle.signature_match.specs.Comparing.{other_constructor, no_argument}
use Rattle.signature_match.proofs.Compared.{told_apart, answers_apart, by_arguments}
use Rattle.signature_match.proofs.compare.Both.constructors_agree.Goals as goal
use Rattle.signature_match.proofs.compare.Both.constructors_agree.Goals.{then-not-is-via-then-not-is, then-not-is-via-else-not-is+then-found-asked}

pub returns-then-not-is-clause-compared : goal.returns-then-not-is-clause-compared
returns-then-not-is-clause-compared c = other_constructor (λ fit. elim c.then-not-is.branch [
  | then-not-is-via-then-not-is w ↦ told_apart (str_bytes c.args.found.now.name) (str_bytes c.args.asked.now.name) c.as_str.result.now c.is.result c.is.ensures c.as_str.ensures w.if-not-is.true fit.name
  | then-not-is-via-else-not-is+then-found-asked w ↦ answers_apart c.args.found.now.has_argument c.args.asked.now.has_argument w.if-found-asked.true fit.has_argument
])

pub returns-then-not-found-clause-compared : goal.returns-then-not-found-clause-compared
returns-then-not-found-clause-compared c =
    let fit : ConstructorsFit c.args.found.now c.args.asked.now = search rules in
    no_argument fit (search rules)

pub returns-clause-compared : goal.returns-clause-compared
returns-clause-compared c =
    let fit : ConstructorsFit c.args.found.now c.args.asked.now = search rules in
    by_arguments c.roots_agree.result c.args.at.now.store.nodes c.roots_agree.new.at.store.nodes c.args.found.now c.args.asked.now fit (search rules) c.roots_agree.ensures.compared

pub returns-clause-goes : goal.returns-clause-goes
returns-clause-goes c = c.roots_agree.ensures.goes

pub returns-then-not-found-clause-goes : goal.returns-then-not-found-clause-goes
returns-then-not-found-clause-goes c = goes_refl c.args.at.now

pub returns-then-not-is-clause-goes : goal.returns-then-not-is-clause-goes
returns-then-not-is-clause-goes c = goes_refl c.args.at.now
