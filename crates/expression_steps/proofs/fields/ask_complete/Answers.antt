use Rattle.typing_state.proofs.Going.{goes_refl, goes_trans}
use Rattle.std.proofs.Common.{◌∙◌, ◌+◌, ◌<◌, length, drop, Some, sym, ap, arith}
use Rattle.std.proofs.lemmas.List.{drop_all}
use Rattle.use_typing.specs.Labels.{is_named_in, toks_of}
use Rattle.use_typing.proofs.Reading.{drop_read}
use Rattle.record_steps.specs.Named.{labels_here}
use Rattle.record_rows.specs.Completing.{absent_here}
use Rattle.expression_steps.specs.Records.{names_written}
use Rattle.expression_steps.proofs.RecordLaws.{absent_written, absent_first, complete_kept, complete_told}
use Rattle.expression_steps.proofs.fields.ask_complete.Goals as goal

pub returns-then-not-has-clause-carries : goal.returns-then-not-has-clause-carries
returns-then-not-has-clause-carries c =
    let all = c.labels_in-label-items.result.now in
    let l = c.label-item.result in
    let i = c.loop-label.label-index in
    let ts = toks_of c.args.written.now.items in
    let seen = names_written c.args.written.now.items in
    let shape = c.labels_in-label-items.ensures ∙ ap (λ d. labels_here d.shape) c.deref.ensures in
    let lt : i < length all = let n = c.loop-label-test.true in omega arith in
    let cut = drop_read all i l lt c.label-item.is in
    let named = ap (λ n. is_named_in n ts) (sym c.as_str.ensures) ∙ sym c.has.ensures ∙ c.if-not-has.true in
    let absent = ap (λ ls. absent_here ls seen) (sym shape) ∙ sym c.loop-label.invariant.3 ∙ ap (λ ls. absent_here ls seen) cut ∙ absent_first l (drop (i + 1) all) ts named ∙ ap (λ x. Some x) (sym c.as_str-then-not-has.ensures) in
    complete_told c.incomplete.result c.args.found.now c.in-Known.declaration c.in-Known.field-1 seen c.as_str-then-not-has.result.now c.args.at.now c.loop-label.at c.incomplete.new.self c.args.span c.in-Known.is absent c.loop-label.invariant.2
    c.incomplete.ensures.told c.incomplete.ensures.rest

pub loop-label-preserved : goal.loop-label-preserved
loop-label-preserved c =
    let all = c.labels_in-label-items.result.now in
    let l = c.label-item.result in
    let i = c.loop-label.label-index in
    let ts = toks_of c.args.written.now.items in
    let seen = names_written c.args.written.now.items in
    let lt : i < length all = let n = c.loop-label-test.true in omega arith in
    let cut = drop_read all i l lt c.label-item.is in
    let named = ap (λ n. is_named_in n ts) (sym c.as_str.ensures) ∙ sym c.has.ensures ∙ c.if-not-has.false in
    let before = c.loop-label.invariant in
    (before.0, before.1, before.2, sym (absent_written l (drop (i + 1) all) ts named) ∙ ap (λ ls. absent_here ls seen) (sym cut) ∙ before.3)

pub returns-clause-carries : goal.returns-clause-carries
returns-clause-carries c =
    let all = c.labels_in-label-items.result.now in
    let seen = names_written c.args.written.now.items in
    let shape = c.labels_in-label-items.ensures ∙ ap (λ d. labels_here d.shape) c.deref.ensures in
    complete_kept c.args.found.now c.in-Known.declaration c.in-Known.field-1 seen c.args.at.now c.loop-label.at c.args.span c.in-Known.is
    (ap (λ ls. absent_here ls seen) (sym shape) ∙ sym c.loop-label.invariant.3 ∙ ap (λ ls. absent_here ls seen) (drop_all c.loop-label.label-index all c.loop-label-test.false)) c.loop-label.invariant.2

pub returns-clause-goes : goal.returns-clause-goes
returns-clause-goes c = c.loop-label.invariant.0

pub returns-in_default-clause-goes : goal.returns-in_default-clause-goes
returns-in_default-clause-goes c = goes_refl c.args.at.now

pub returns-then-not-has-clause-goes : goal.returns-then-not-has-clause-goes
returns-then-not-has-clause-goes c = goes_trans c.args.at.now c.loop-label.at c.incomplete.new.self c.loop-label.invariant.0 c.incomplete.ensures.goes
