use Rattle.std.proofs.lemmas.Result.{IfOk-weaker}
use Rattle.lsp_answers.specs.Puts.{answered_of}
use Rattle.lsp_documents.proofs.documents.Documents.reply.Goals as goal

pub returns-clause-is : goal.returns-clause-is
returns-clause-is g c = IfOk-weaker c.response.result _ _ (λ v is. (answered_of c.in_ok-answered.answered, c.in_ok-answered.ensures.is, is)) c.response.ensures
