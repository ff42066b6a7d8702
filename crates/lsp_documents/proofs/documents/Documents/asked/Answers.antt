use Rattle.std.proofs.Common.{◌≡◌, subst, IfOk}
use Rattle.lsp_model.specs.Answers as model
use Rattle.lsp_model.specs.Answers.{bytes_put}
use Rattle.lsp_front.specs.Sayings.{call_of, id_of}
use Rattle.lsp_documents.specs.States.{State}
use Rattle.lsp_documents.specs.Puts.{Answers}
use Rattle.lsp_documents.proofs.documents.Documents.asked.Goals as goal

pub returns-clause-is : goal.returns-clause-is
returns-clause-is g c =
    subst (λ (s : State). IfOk c.reply-bytes.result (λ v. (a : model.Answered) × Answers s (call_of c.args.call) a × (v.items ≡ bytes_put (model.result (id_of c.args.id) a)))) c.self.view_is c.reply-bytes.ensures.is
