use Rattle.std.proofs.Common.{◌≡◌, List, ℕ, All, map, sym, ap, subst, ◌∙◌}
use Rattle.text_terms.specs.Bytes.{str_bytes}
use Rattle.service_model.specs.Trials.{AddsNoFault}
use Rattle.syntax_tree.specs.View.{place_of}
use Rattle.asked_node.specs.Trials.{AreReplaced}
use Rattle.construct_terms.specs.Terms.{AreKept, told_by}
use Rattle.text_changes.specs.Changes.{Tells, text_in}
use Rattle.text_changes.proofs.Terms.{kept_fit}
use Rattle.text_changes.proofs.changes.terms_tried.Goals as goal

-- src/changes.rt:123:1
pub returns-clause-said : goal.returns-clause-said
returns-clause-said g c =
    let text = c.args.store.now in
    let kept = c.in_ok-changes.changes.items in
    let same : map str_bytes c.in_ok-texts_of.field-0.items ≡ map text_in kept = c.in_ok-texts_of.ensures ∙ ap (map text_in) c.deref.ensures.value in
    let are = subst (λ (t : List ℕ). AreKept (told_by (Tells t)) c.args.candidates.items kept) c.requires.text c.in_ok-changes.ensures.kept in
    let fit = kept_fit text c.args.span c.args.candidates.items kept are c.requires.placed in
    (map str_bytes c.in_ok-texts_of.field-0.items, cc, subst (λ (ts : List (List ℕ)). All (AddsNoFault text (place_of c.args.span)) ts) (sym same) fit)

pub returns-in_err-changes-clause-tries : goal.returns-in_err-changes-clause-tries
returns-in_err-changes-clause-tries g c =
    let (texts, are, spent) = c.construct.ensures.spends in
    (texts, subst (λ (t : List ℕ). AreReplaced t c.args.candidates.items texts) c.requires.text are, spent.1)

pub returns-in_err-texts_of-clause-tries : goal.returns-in_err-texts_of-clause-tries
returns-in_err-texts_of-clause-tries g c =
    let (texts, are, spent) = c.construct.ensures.spends in
    (texts, subst (λ (t : List ℕ). AreReplaced t c.args.candidates.items texts) c.requires.text are, spent.1)

pub returns-clause-tries : goal.returns-clause-tries
returns-clause-tries g c =
    let (texts, are, spent) = c.construct.ensures.spends in
    (texts, subst (λ (t : List ℕ). AreReplaced t c.args.candidates.items texts) c.requires.text are, spent.1)

pub returns-in_err-changes-clause-same_reference : goal.returns-in_err-changes-clause-same_reference
returns-in_err-changes-clause-same_reference g c = let (texts, are, spent) = c.construct.ensures.spends in spent.0

pub returns-in_err-texts_of-clause-same_reference : goal.returns-in_err-texts_of-clause-same_reference
returns-in_err-texts_of-clause-same_reference g c = let (texts, are, spent) = c.construct.ensures.spends in spent.0

pub returns-clause-same_reference : goal.returns-clause-same_reference
returns-clause-same_reference g c = let (texts, are, spent) = c.construct.ensures.spends in spent.0
