use Rattle.std.proofs.Common.{◌≡◌, ◌∙◌, ◌+◌, ◌<◌, length, drop, option_map, Some, None, refl, sym, ap, arith, if◌then◌else◌}
use Rattle.std.proofs.lemmas.List.{drop_all}
use Rattle.std.specs.Str.{bytes_eq}
use Rattle.text_terms.specs.Bytes.{str_bytes}
use Rattle.syntax_tree.specs.View.{tok_of}
use Rattle.typing_state.proofs.Going.{goes_refl}
use Rattle.record_steps.specs.Named.{labels_here, label_here}
use Rattle.use_typing.proofs.Reading.{drop_read}
use Rattle.use_typing.proofs.Recording.{gives_none, gives_field, gives_unwritten, gives_open}
use Rattle.use_typing.proofs.record_types.field_type.Goals as goal

pub loop-label-init : goal.loop-label-init
loop-label-init c = (goes_refl c.args.at.now, refl, refl, refl)

pub returns-clause-gives : goal.returns-clause-gives
returns-clause-gives c =
    let x = (tok_of c.in-Known-Some.name.now).name in
    let all = c.labels_in-labels.result.now in
    let shape = c.labels_in-labels.ensures ∙ ap (λ d. labels_here d.shape) c.deref.ensures in
    let none : label_here x all ≡ None = sym c.loop-label.invariant.3 ∙ ap (label_here x) (drop_all c.loop-label.label-index all c.loop-label-test.false) in
    gives_none c.args.found.now c.in-Known-Some.declaration c.in-Known-Some.ty (option_map (λ t. tok_of t.now) c.args.name) (tok_of c.in-Known-Some.name.now) c.args.at.now c.loop-label.at c.in-Known-Some.is-0 (ap (option_map (λ t. tok_of t.now)) c.in-Known-Some.is-1)
    (ap (label_here x) (sym shape) ∙ none) c.loop-label.invariant.2

pub returns-then-is-clause-gives : goal.returns-then-is-clause-gives
returns-then-is-clause-gives c =
    let x = (tok_of c.in-Known-Some.name.now).name in
    let all = c.labels_in-labels.result.now in
    let l = c.label-item.result in
    let i = c.loop-label.label-index in
    let shape = c.labels_in-labels.ensures ∙ ap (λ d. labels_here d.shape) c.deref.ensures in
    let lt : i < length all = let n = c.loop-label-test.true in omega arith in
    let cut = drop_read all i l lt c.label-item.is in
    let named = ap (bytes_eq (str_bytes l.name)) (sym c.as_str.ensures) ∙ sym c.is.ensures ∙ c.if-is.true in
    let there : label_here x all ≡ Some l = sym c.loop-label.invariant.3 ∙ ap (label_here x) cut ∙ ap (λ b. if b then Some l else label_here x (drop (i + 1) all)) named in
    gives_field c.args.found.now c.in-Known-Some.declaration c.in-Known-Some.ty (option_map (λ t. tok_of t.now) c.args.name) (tok_of c.in-Known-Some.name.now) l c.args.at.now c.loop-label.at c.joined_field.new.at c.in_ok-joined_field.field-0.0
    c.in-Known-Some.is-0 (ap (option_map (λ t. tok_of t.now)) c.in-Known-Some.is-1) (ap (label_here x) (sym shape) ∙ there) c.loop-label.invariant.2 c.in_ok-joined_field.ensures.takes

pub returns-in_default-clause-gives : goal.returns-in_default-clause-gives
returns-in_default-clause-gives c = gives_unwritten c.args.found.now c.in_default.field-0-0 c.in_default.field-1-0 (option_map (λ t. tok_of t.now) c.args.name) c.args.at.now c.in_default.is-0 (ap (option_map (λ t. tok_of t.now)) c.in_default.is-1)

pub returns-in_default-2-clause-gives : goal.returns-in_default-2-clause-gives
returns-in_default-2-clause-gives c = gives_open c.args.found.now (option_map (λ t. tok_of t.now) c.args.name) c.args.at.now c.in_default.is-0

pub returns-clause-goes : goal.returns-clause-goes
returns-clause-goes c = c.loop-label.invariant.0

pub returns-in_default-2-clause-goes : goal.returns-in_default-2-clause-goes
returns-in_default-2-clause-goes c = goes_refl c.args.at.now

pub returns-in_default-clause-goes : goal.returns-in_default-clause-goes
returns-in_default-clause-goes c = goes_refl c.args.at.now
