use Rattle.std.proofs.Common.{◌≡◌, ◌∙◌, List, ap, sym, subst}
use Rattle.text_terms.specs.Bytes.{str_bytes}
use Rattle.lsp_model.specs.Answers.{Piece}
use Rattle.lsp_positions.specs.Texts.{columns_in}
use Rattle.lsp_front.specs.Sayings.{choices_of, delivery_in}
use Rattle.lsp_documents.specs.Endings.{is_shut}
use Rattle.lsp_documents.specs.States.{Document, State, place_in}
use Rattle.lsp_documents.specs.Puts.{with_documents, Clears}
use Rattle.lsp_documents.specs.Steps.{bytes_of}
use Rattle.lsp_documents.proofs.Kept.{filled, none_of, some_of, state_of}
use Rattle.lsp_documents.proofs.Stepping.{closed_step, many_cleared, unclosed_step}
use Rattle.lsp_documents.proofs.documents.Documents.close.Goals as goal

pub returns-then-is_none-clause-step : goal.returns-then-is_none-clause-step
returns-then-is_none-clause-step g c =
    let s = c.args.self.now in
    let uri = str_bytes c.args.uri in
    let place = c.place_of.ensures.value
    ∙ ap (λ (l : List Document). place_in l c.as_str.result.now) c.deref.ensures.value
    ∙ ap (place_in c.self.inside.documents.items) c.as_str.ensures
    ∙ ap (λ (x : State). place_in x.documents uri) c.self.view_is in
    unclosed_step s uri c.new.result (sym place ∙ none_of c.place_of.result c.if-is_none.ensures) c.new.ensures

pub returns-clause-step : goal.returns-clause-step
returns-clause-step g c =
    let s = c.args.self.now in
    let uri = str_bytes c.args.uri in
    let old = c.self-2.inside.documents in
    let choices = c.self-2.inside.choices in
    let now = c.clears.new.documents in
    let v = c.in_ok-clears.field-0 in
    let place = c.place_of.ensures.value
    ∙ ap (λ (l : List Document). place_in l c.as_str.result.now) c.deref.ensures.value
    ∙ ap (place_in c.self.inside.documents.items) c.as_str.ensures
    ∙ ap (λ (x : State). place_in x.documents uri) c.self.view_is in
    let there = some_of c.place_of.result c.if-is_none.ensures in
    let here = subst (λ (l : List Document). (ps : List Piece) × Clears (delivery_in choices.delivery) (columns_in choices.columns) uri l ps now × (v ≡ bytes_of ps)) c.deref_mut.ensures.value c.in_ok-clears.ensures.clears in
    let many = many_cleared (delivery_in choices.delivery) (columns_in choices.columns) uri old.items now here.0 here.1 in
    let kept = ap (state_of (choices_of choices) (is_shut c.self-2.inside.ending)) (filled old.len now old.items old.ok.0 many) ∙ ap (λ (x : State). with_documents x now) c.self-2.view_is in
    let clears = subst (λ (x : State). (ps : List Piece) × Clears x.choices.delivery x.choices.columns uri x.documents ps now × (v ≡ bytes_of ps)) c.self-2.view_is here in
    closed_step s c.take_off.new.self _ uri there.0 v now (sym place ∙ there.1) c.take_off.ensures clears kept
