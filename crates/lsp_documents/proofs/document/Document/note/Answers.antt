use Rattle.std.proofs.Common.{◌≡◌, sym, subst}
use Rattle.lsp_model.specs.Answers.{Piece, bytes_put}
use Rattle.lsp_positions.specs.Texts.{columns_in}
use Rattle.lsp_documents.specs.States.{Document}
use Rattle.lsp_documents.specs.Reports.{IsReport}
use Rattle.lsp_documents.proofs.document.Document.note.Goals as goal

pub invariant_of-self : goal.invariant_of-self
invariant_of-self g c =
    let r = subst (λ (d : Document). (p : Piece) × IsReport (columns_in c.args.by) d p × (c.args.sent.items ≡ bytes_put p)) (sym c.self.view_is) c.requires in
    (r.0, r.1, sym r.2)
