use Rattle.std.proofs.Common.{◌∙◌, ap}
use Rattle.lsp_documents.specs.States.{with_shown}
use Rattle.lsp_documents.proofs.document.Document.send.Goals as goal

pub returns-clause-is : goal.returns-clause-is
returns-clause-is g c =
    let r = c.in_ok-bytes.ensures.is in
    (r.0, r.1, r.2, c.note.ensures ∙ ap (with_shown c.args.self.now) (c.in_ok-copy.ensures ∙ c.deref.ensures.value ∙ r.2))

pub note-requires : goal.note-requires
note-requires g c =
    let r = c.in_ok-bytes.ensures.is in
    (r.0, r.1, c.in_ok-copy.ensures ∙ c.deref.ensures.value ∙ r.2)
