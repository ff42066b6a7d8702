use Rattle.std.proofs.Common.{◌≡◌, ◌∙◌, List, ◌∷◌, ap, subst}
use Rattle.lsp_model.specs.Answers.{Piece}
use Rattle.lsp_positions.specs.Texts.{columns_in}
use Rattle.lsp_front.specs.Sayings.{choices_of, delivery_in}
use Rattle.lsp_documents.specs.Endings.{is_shut}
use Rattle.lsp_documents.specs.States.{Document, State}
use Rattle.lsp_documents.specs.Reports.{RefreshesBy}
use Rattle.lsp_documents.specs.Puts.{with_documents}
use Rattle.lsp_documents.specs.Steps.{bytes_of}
use Rattle.lsp_documents.proofs.Kept.{filled, state_of}
use Rattle.lsp_documents.proofs.Stepping.{many_by, passed_step}
use Rattle.lsp_documents.proofs.documents.Documents.pass_over.Goals as goal

pub returns-clause-step : goal.returns-clause-step
returns-clause-step g c =
    let old = c.self-2.inside.documents in
    let choices = c.self-2.inside.choices in
    let now = c.refreshed.new.documents in
    let first = c.in_ok-first.first.items in
    let v = c.in_ok-refreshed.field-0 in
    let here = subst (λ (l : List Document). (ps : List Piece) × RefreshesBy (delivery_in choices.delivery) (columns_in choices.columns) l ps now × (v ≡ first ∷ bytes_of ps)) c.deref_mut.ensures.value c.in_ok-refreshed.ensures.puts in
    let many = many_by (delivery_in choices.delivery) (columns_in choices.columns) old.items now here.0 here.1 in
    let kept = ap (state_of (choices_of choices) (is_shut c.self-2.inside.ending)) (filled old.len now old.items old.ok.0 many) ∙ ap (λ (x : State). with_documents x now) c.self-2.view_is in
    let puts = subst (λ (x : State). (ps : List Piece) × RefreshesBy x.choices.delivery x.choices.columns x.documents ps now × (v ≡ first ∷ bytes_of ps)) c.self-2.view_is here in
    passed_step c.args.self.now c.lose_all.new.self _ first v now c.in_ok-first.ensures c.lose_all.ensures puts kept
