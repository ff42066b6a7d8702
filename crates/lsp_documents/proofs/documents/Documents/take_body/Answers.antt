use Rattle.std.proofs.Common.{◌∙◌, ap, sym, subst, IfOk}
use Rattle.lsp_model.specs.Messages.{Message}
use Rattle.lsp_front.specs.Sayings.{message_of}
use Rattle.lsp_documents.specs.Steps.{StepBy}
use Rattle.lsp_documents.specs.declared.documents.Step.TheVariants.{Puts}
use Rattle.lsp_documents.proofs.Stepping.{ignored_step}
use Rattle.lsp_documents.proofs.documents.Documents.take_body.Goals as goal

pub returns-in-Request-clause-step : goal.returns-in-Request-clause-step
returns-in-Request-clause-step g c =
    subst (λ (m : Message). IfOk c.request.result (λ step. StepBy c.args.self.now m step c.request.new.self)) (ap message_of (sym c.in-Request.is) ∙ c.in_ok-id.ensures) c.request.ensures.step

pub returns-in-Notice-clause-step : goal.returns-in-Notice-clause-step
returns-in-Notice-clause-step g c =
    subst (λ (m : Message). IfOk c.notice.result (λ step. StepBy c.args.self.now m step c.notice.new.self)) (ap message_of (sym c.in-Notice.is) ∙ c.in_ok-id.ensures) c.notice.ensures.step

pub returns-in-Ignored-clause-step : goal.returns-in-Ignored-clause-step
returns-in-Ignored-clause-step g c =
    let s = c.args.self.now in
    subst (λ (m : Message). StepBy s m (Puts c.new.result) s) (ap message_of (sym c.in-Ignored.is) ∙ c.in_ok-id.ensures) (ignored_step s c.new.result c.new.ensures)
