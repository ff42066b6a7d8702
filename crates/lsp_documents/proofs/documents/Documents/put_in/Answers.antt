use Rattle.std.proofs.Common.{◌≡◌, ◌∙◌, List, insert, ap, subst}
use Rattle.std.proofs.lemmas.Result.{err_from_is_err_and}
use Rattle.lsp_model.specs.Answers.{Piece}
use Rattle.lsp_front.specs.Sayings.{choices_of}
use Rattle.lsp_documents.specs.Endings.{is_shut}
use Rattle.lsp_documents.specs.States.{Document, State}
use Rattle.lsp_documents.specs.Placing.{Placed}
use Rattle.lsp_documents.specs.Puts.{Sends}
use Rattle.lsp_documents.specs.Steps.{bytes_of}
use Rattle.lsp_documents.proofs.Kept.{filled, state_of}
use Rattle.lsp_documents.proofs.Stepping.{many_sent}
use Rattle.lsp_documents.proofs.documents.Documents.put_in.Goals as goal

pub returns-clause-puts : goal.returns-clause-puts
returns-clause-puts g c =
    let old = c.self.inside.documents in
    let at = c.args.at in
    let d = c.bring_up.new.self in
    let now = c.sends.new.documents in
    let choices = choices_of c.self.inside.choices in
    let shut = is_shut c.self.inside.ending in
    let v = c.in_ok-pieces.pieces in
    let sends = subst (λ (l : List Document). (ps : List Piece) × Sends choices.delivery choices.columns d l ps c.sends.new.document now × (v ≡ bytes_of ps)) c.deref_mut.ensures.value c.in_ok-pieces.ensures.sends in
    let many = many_sent choices.delivery choices.columns d c.sends.new.document old.items now sends.0 sends.1 in
    let kept = ap (state_of choices shut) (c.in_ok-insert.ensures.items ∙ ap (λ (l : List Document). insert l at c.sends.new.document) (filled old.len now old.items old.ok.0 many)) in
    let placed = subst (λ (s : State). Placed s d at sends.0 (state_of choices shut c.insert.new.self.items)) c.self.view_is (c.sends.new.document, now, sends.1, kept) in
    (sends.0, subst (λ (x : Document). Placed c.args.self.now x at sends.0 (state_of choices shut c.insert.new.self.items)) c.bring_up.ensures.same placed, sends.2)

pub returns-in_err-pieces-clause-puts : goal.returns-in_err-pieces-clause-puts
returns-in_err-pieces-clause-puts g c =
    let p = err_from_is_err_and c.from_residual.result c.from_residual.ensures.1 in
    rw p.1 tt
