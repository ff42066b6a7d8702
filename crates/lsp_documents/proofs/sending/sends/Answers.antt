use Rattle.std.proofs.Common.{◌≡◌, [], ◌∷◌, List, refl, sym, subst}
use Rattle.std.proofs.lemmas.Result.{IfOk-weaker}
use Rattle.lsp_model.specs.Answers.{Piece}
use Rattle.lsp_positions.specs.Texts.{columns_in}
use Rattle.lsp_front.specs.Sayings.{delivery_in}
use Rattle.lsp_documents.specs.Puts.{Sends}
use Rattle.lsp_documents.specs.Reports.{RefreshesBy}
use Rattle.lsp_documents.specs.Steps.{bytes_of}
use Rattle.lsp_documents.proofs.Stepping.{sends_by}
use Rattle.lsp_documents.proofs.sending.sends.Goals as goal

pub returns-in-AskedFor-clause-sends : goal.returns-in-AskedFor-clause-sends
returns-in-AskedFor-clause-sends g c = ([], subst (λ d. Sends (delivery_in d) (columns_in c.args.choices.columns) c.args.document.now c.args.documents.now [] c.args.document.now c.args.documents.now) (sym c.in-AskedFor.is) (refl, refl, refl), c.new.ensures)

pub returns-in_ok-first-in-Sent-clause-sends : goal.returns-in_ok-first-in-Sent-clause-sends
returns-in_ok-first-in-Sent-clause-sends g c =
    let by = columns_in c.args.choices.columns in
    let d = c.args.document.now in
    let others = c.args.documents.now in
    let now = c.send.new.self in
    let others' = c.refreshed.new.documents in
    let first = c.in_ok-first-in-Sent.first.items in
    IfOk-weaker c.refreshed.result _ _ (λ v puts.
    subst (λ x. (ps : List Piece) × Sends (delivery_in x) by d others ps now others' × (v ≡ bytes_of ps)) (sym c.in-Sent.is)
    (sends_by by d now others others' first v c.in_ok-first-in-Sent.ensures.is (subst (λ x. (ps : List Piece) × RefreshesBy (delivery_in x) by others ps others' × (v ≡ first ∷ bytes_of ps)) c.in-Sent.is puts))) c.refreshed.ensures.puts
