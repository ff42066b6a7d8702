use Rattle.std.proofs.Common.{List, ℕ, [], ◌∷◌, subst}
use Rattle.asked_node.specs.Trials.{AreReplaced}
use Rattle.text_changes.proofs.Splitting.{kept_said, refused_said}
use Rattle.text_changes.proofs.changes.cases_tried.Goals as goal

pub returns-in-Ok-clause-said : goal.returns-in-Ok-clause-said
returns-in-Ok-clause-said g c =
    kept_said c.args.store.now c.args.trial.now.of.now.text.items c.args.candidate c.in-Ok.change (c.position.result.line, c.position.result.col) (c.position-in-Ok.result.line, c.position-in-Ok.result.col)
    c.in-Ok.ensures.kept.0 c.requires.text c.position.ensures c.position-in-Ok.ensures c.in-Ok.ensures.kept.1

pub returns-in-Err-clause-said : goal.returns-in-Err-clause-said
returns-in-Err-clause-said g c =
    refused_said c.args.store.now c.args.trial.now.of.now.text.items c.args.candidate c.cases_failure.result c.in-Err.fault c.requires.text c.in-Err.ensures.refused c.cases_failure.ensures

pub returns-in-Ok-clause-tries : goal.returns-in-Ok-clause-tries
returns-in-Ok-clause-tries g c =
    let (texts, are, spent) = c.destruct.ensures.spends in
    (texts, subst (λ (t : List ℕ). AreReplaced t (c.args.candidate ∷ []) texts) c.requires.text are, spent.1)

pub returns-in-Err-clause-tries : goal.returns-in-Err-clause-tries
returns-in-Err-clause-tries g c =
    let (texts, are, spent) = c.destruct.ensures.spends in
    (texts, subst (λ (t : List ℕ). AreReplaced t (c.args.candidate ∷ []) texts) c.requires.text are, spent.1)

pub returns-in-Ok-clause-same_reference : goal.returns-in-Ok-clause-same_reference
returns-in-Ok-clause-same_reference g c = let (texts, are, spent) = c.destruct.ensures.spends in spent.0

pub returns-in-Err-clause-same_reference : goal.returns-in-Err-clause-same_reference
returns-in-Err-clause-same_reference g c = let (texts, are, spent) = c.destruct.ensures.spends in spent.0
