use Rattle.std.proofs.Common.{◌≡◌, [], ◌∷◌, List, refl, sym, subst}
use Rattle.std.proofs.lemmas.Result.{IfOk-weaker}
use Rattle.text_terms.specs.Bytes.{str_bytes}
use Rattle.lsp_model.specs.Answers.{Piece}
use Rattle.lsp_positions.specs.Texts.{columns_in}
use Rattle.lsp_front.specs.Sayings.{delivery_in}
use Rattle.lsp_documents.specs.Puts.{Clears}
use Rattle.lsp_documents.specs.Reports.{RefreshesBy}
use Rattle.lsp_documents.specs.Steps.{bytes_of}
use Rattle.lsp_documents.proofs.Stepping.{clears_by}
use Rattle.lsp_documents.proofs.sending.clears.Goals as goal

pub returns-in-AskedFor-clause-clears : goal.returns-in-AskedFor-clause-clears
returns-in-AskedFor-clause-clears g c = ([], subst (λ d. Clears (delivery_in d) (columns_in c.args.choices.columns) (str_bytes c.args.uri) c.args.documents.now [] c.args.documents.now) (sym c.in-AskedFor.is) (refl, refl), c.new.ensures)

pub returns-in_ok-cleared-in-Sent-clause-clears : goal.returns-in_ok-cleared-in-Sent-clause-clears
returns-in_ok-cleared-in-Sent-clause-clears g c =
    let by = columns_in c.args.choices.columns in
    let uri = str_bytes c.args.uri in
    let others = c.args.documents.now in
    let others' = c.refreshed.new.documents in
    let first = c.in_ok-cleared-in-Sent.field-0.items in
    IfOk-weaker c.refreshed.result _ _ (λ v puts.
    subst (λ x. (ps : List Piece) × Clears (delivery_in x) by uri others ps others' × (v ≡ bytes_of ps)) (sym c.in-Sent.is)
    (clears_by by uri others others' first v c.in_ok-cleared-in-Sent.ensures (subst (λ x. (ps : List Piece) × RefreshesBy (delivery_in x) by others ps others' × (v ≡ first ∷ bytes_of ps)) c.in-Sent.is puts))) c.refreshed.ensures.puts
