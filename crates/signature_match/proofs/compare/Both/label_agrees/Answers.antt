use Rattle.typing_state.proofs.Going.{goes_refl}
use Rattle.text_terms.specs.Bytes.{str_bytes}
use Rattle.std.proofs.Common.{rules}
use Rattle.signature_match.specs.Shapes.{LabelsFit}
use Rattle.signature_match.specs.Comparing.{other_label}
use Rattle.signature_match.proofs.Compared.{told_apart, answers_apart, by_labels}
use Rattle.signature_match.proofs.compare.Both.label_agrees.Goals as goal
use Rattle.signature_match.proofs.compare.Both.label_agrees.Goals.{then-not-is-via-then-not-is, then-not-is-via-else-not-is+then-found-asked}

pub returns-then-not-is-clause-compared : goal.returns-then-not-is-clause-compared
returns-then-not-is-clause-compared c = other_label (λ fit. elim c.then-not-is.branch [
  | then-not-is-via-then-not-is w ↦ told_apart (str_bytes c.args.found.now.name) (str_bytes c.args.asked.now.name) c.as_str.result.now c.is.result c.is.ensures c.as_str.ensures w.if-not-is.true fit.name
  | then-not-is-via-else-not-is+then-found-asked w ↦ answers_apart c.args.found.now.is_mutable c.args.asked.now.is_mutable w.if-found-asked.true fit.is_mutable
])

pub returns-clause-compared : goal.returns-clause-compared
returns-clause-compared c =
    let fit : LabelsFit c.args.found.now c.args.asked.now = search rules in
    by_labels c.roots_agree.result c.args.at.now.store.nodes c.roots_agree.new.at.store.nodes c.args.found.now c.args.asked.now fit c.roots_agree.ensures.compared

pub returns-clause-goes : goal.returns-clause-goes
returns-clause-goes c = c.roots_agree.ensures.goes

pub returns-then-not-is-clause-goes : goal.returns-then-not-is-clause-goes
returns-then-not-is-clause-goes c = goes_refl c.args.at.now
