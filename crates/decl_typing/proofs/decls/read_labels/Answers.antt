use Rattle.type_expressions.proofs.Untyped.{untyped_same, untyped_then, faults_untyped}
use Rattle.std.proofs.Common.{◌∙◌, [], ◌+◌, ◌<◌, length, take, drop, Some, None, sym, ap, subst, arith, append-nil}
use Rattle.std.proofs.lemmas.List.{drop_all, take_all}
use Rattle.typing_state.proofs.Going.{goes_refl, goes_trans}
use Rattle.typing_steps.specs.States.{is_aloud, sight}
use Rattle.typing_rows.specs.Settled.{behind}
use Rattle.decl_typing.specs.Labels.{labels_as, FirstLabels, SettlesLabelNames}
use Rattle.decl_typing.proofs.Labels.{none_read, each_label, all_labels}
use Rattle.decl_typing.specs.LabelParts.{ReadsLabel, ReadsFirstLabels}
use Rattle.decl_typing.proofs.MadeLabels.{no_fields, each_field, all_fields}
use Rattle.decl_typing.proofs.decls.read_labels.Goals.{in-Some+in_ok-push, in_default}
use Rattle.decl_typing.proofs.decls.read_labels.Goals as goal

pub returns-clause-goes : goal.returns-clause-goes
returns-clause-goes c = goes_trans c.args.at.now c.loop-part.at c.labels_are_new.new.at c.loop-part.invariant.goes c.labels_are_new.ensures.goes

pub returns-in_err-label-clause-goes : goal.returns-in_err-label-clause-goes
returns-in_err-label-clause-goes c = goes_trans c.args.at.now c.loop-part.at c.read_label.new.at c.loop-part.invariant.goes c.read_label.ensures.goes

pub returns-in_err-labels_are_new-clause-goes : goal.returns-in_err-labels_are_new-clause-goes
returns-in_err-labels_are_new-clause-goes c = goes_trans c.args.at.now c.loop-part.at c.labels_are_new.new.at c.loop-part.invariant.goes c.labels_are_new.ensures.goes

pub returns-in_err-push-clause-goes : goal.returns-in_err-push-clause-goes
returns-in_err-push-clause-goes c = goes_trans c.args.at.now c.loop-part.at c.read_label.new.at c.loop-part.invariant.goes c.read_label.ensures.goes

pub loop-part-init : goal.loop-part-init
loop-part-init c = record { goes = goes_refl c.args.at.now; untyped = untyped_same c.args.at.now; settles = λ names over all aloud B around. none_read (labels_as c.args.at.now.item c.args.parts.now); means = λ names ps t over nodes. no_fields c.args.at.now c.args.inner.now names ps c.args.parts.now t c.args.record.0 c.new-labels.result.items c.new-labels.ensures.items }

pub loop-part-preserved : goal.loop-part-preserved
loop-part-preserved c =
    let at = c.args.at.now in
    let ps = c.args.parts.now in
    let k = c.loop-part.part-index in
    let lt : k < length ps = let n = c.loop-part-test.true in omega arith in
    record {
      goes = goes_trans at c.loop-part.at c.read_label.new.at c.loop-part.invariant.goes c.read_label.ensures.goes;
      untyped = untyped_then c.loop-part.invariant.untyped c.in_ok-label.ensures.untyped;
      settles = λ names over. each_label at c.loop-part.at c.read_label.new.at c.args.inner.now names ps k c.part-item.result lt c.part-item.is (c.loop-part.invariant.settles names over) c.loop-part.invariant.goes (c.in_ok-label.ensures.settles names over);
      means = λ names qs t over nodes. elim c.match-branch-2.branch [
        | in-Some+in_ok-push w ↦
            subst (ReadsFirstLabels at c.read_label.new.at c.args.inner.now names qs ps (drop (k + 1) ps) (take (k + 1) ps) t c.args.record.0) (sym (ap (λ v. v.items) w.labels-is ∙ w.in_ok-push.ensures.pushed))
            (each_field at c.loop-part.at c.read_label.new.at c.args.inner.now names qs ps k c.part-item.result t c.args.record.0 c.loop-part.labels.items (Some w.in-Some.label) lt c.part-item.is (c.loop-part.invariant.means names qs t over nodes) c.loop-part.invariant.goes
            (subst (ReadsLabel c.loop-part.at c.read_label.new.at c.args.inner.now names qs c.part-item.result t c.args.record.0) w.in-Some.is (c.in_ok-label.ensures.means names qs t over nodes)))
        | in_default w ↦
            subst (ReadsFirstLabels at c.read_label.new.at c.args.inner.now names qs ps (drop (k + 1) ps) (take (k + 1) ps) t c.args.record.0) (append-nil c.loop-part.labels.items ∙ sym (ap (λ v. v.items) w.labels-is))
            (each_field at c.loop-part.at c.read_label.new.at c.args.inner.now names qs ps k c.part-item.result t c.args.record.0 c.loop-part.labels.items None lt c.part-item.is (c.loop-part.invariant.means names qs t over nodes) c.loop-part.invariant.goes
            (subst (ReadsLabel c.loop-part.at c.read_label.new.at c.args.inner.now names qs c.part-item.result t c.args.record.0) w.in_default.is (c.in_ok-label.ensures.means names qs t over nodes)))
      ];
    }

pub returns-clause-settles : goal.returns-clause-settles
returns-clause-settles c = λ names over all aloud B around.
    let at = c.args.at.now in
    let ps = c.args.parts.now in
    let g = c.loop-part.invariant.goes in
    let none = drop_all c.loop-part.part-index ps c.loop-part-test.false in
    let x = subst (λ left. FirstLabels B (labels_as at.item ps) (labels_as at.item left) (sight at) (sight c.loop-part.at)) none (c.loop-part.invariant.settles names over all aloud B around) in
    let y = subst (λ i. SettlesLabelNames c.loop-part.at c.labels_are_new.new.at (labels_as i ps)) g.item c.in_ok-labels_are_new.ensures.settles in
    all_labels x (y (ap is_aloud g.telling ∙ aloud) (behind B x.judged x.fixes))

pub returns-clause-means : goal.returns-clause-means
returns-clause-means c = λ names qs t over nodes.
    let at = c.args.at.now in
    let ps = c.args.parts.now in
    let k = c.loop-part.part-index in
    let mid = c.loop-part.at in
    let none = drop_all k ps c.loop-part-test.false in
    let all = take_all k ps c.loop-part-test.false in
    let first = subst (λ done. ReadsFirstLabels at mid c.args.inner.now names qs ps [] done t c.args.record.0 c.loop-part.labels.items) all
    (subst (λ left. ReadsFirstLabels at mid c.args.inner.now names qs ps left (take k ps) t c.args.record.0 c.loop-part.labels.items) none (c.loop-part.invariant.means names qs t over nodes)) in
    all_fields at mid c.labels_are_new.new.at c.args.inner.now names qs ps t c.args.record.0 c.loop-part.labels.items c.loop-part.invariant.goes c.labels_are_new.ensures.rest c.labels_are_new.ensures.goes c.in_ok-labels_are_new.ensures.settles first

pub returns-clause-untyped : goal.returns-clause-untyped
returns-clause-untyped c = untyped_then c.loop-part.invariant.untyped (faults_untyped c.loop-part.at c.labels_are_new.new.at c.labels_are_new.ensures.rest)
