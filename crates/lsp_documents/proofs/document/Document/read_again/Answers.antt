use Rattle.std.proofs.lemmas.Result.{err_from_is_err_and}
use Rattle.lsp_documents.proofs.document.Document.read_again.Goals as goal

pub returns-in_err-why : goal.returns-in_err-why
returns-in_err-why g c =
    let p = err_from_is_err_and c.from_residual.result c.from_residual.ensures.1 in
    rw p.1 tt
