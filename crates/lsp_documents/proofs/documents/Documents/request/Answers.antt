use Rattle.std.proofs.Common.{◌∙◌, ap}
use Rattle.std.proofs.lemmas.Result.{IfOk-weaker}
use Rattle.lsp_front.specs.Sayings.{call_of, id_of}
use Rattle.lsp_documents.specs.Settling.{behind}
use Rattle.lsp_documents.proofs.Stepping.{answered_step}
use Rattle.lsp_documents.proofs.documents.Documents.request.Goals as goal

pub returns-in-Ok-clause-step : goal.returns-in-Ok-clause-step
returns-in-Ok-clause-step g c =
    let s = c.args.self.now in
    let new = c.settle.ensures ∙ ap (λ x. behind x c.settled_by-settled.result) c.asked.ensures.stays ∙ c.settled_by-settled.ensures s in
    IfOk-weaker c.one.result _ _ (λ step is. answered_step s c.settle.new.self (id_of c.args.id) (call_of c.args.call) c.in-Ok.bytes.items step c.in-Ok.ensures.is new is) c.one.ensures
