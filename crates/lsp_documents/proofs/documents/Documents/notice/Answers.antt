use Rattle.std.proofs.Common.{ap, sym, subst, IfOk}
use Rattle.lsp_model.specs.Messages.{Message, notice}
use Rattle.lsp_front.specs.Sayings.{notice_of}
use Rattle.lsp_documents.specs.States.{State}
use Rattle.lsp_documents.specs.Steps.{StepBy}
use Rattle.lsp_documents.proofs.documents.Documents.notice.Goals as goal

pub returns-in-Opened-clause-step : goal.returns-in-Opened-clause-step
returns-in-Opened-clause-step g c =
    subst (λ (m : Message). IfOk c.open.result (λ step. StepBy c.args.self.now m step c.open.new.self)) (ap (λ n. notice (notice_of n)) (sym c.in-Opened.is)) c.open.ensures.step

pub returns-in-Changed-clause-step : goal.returns-in-Changed-clause-step
returns-in-Changed-clause-step g c =
    subst (λ (m : Message). IfOk c.change.result (λ step. StepBy c.args.self.now m step c.change.new.self)) (ap (λ n. notice (notice_of n)) (sym c.in-Changed.is)) c.change.ensures.step

pub returns-in-Closed-clause-step : goal.returns-in-Closed-clause-step
returns-in-Closed-clause-step g c =
    subst (λ (m : Message). IfOk c.close.result (λ step. StepBy c.args.self.now m step c.close.new.self)) (ap (λ n. notice (notice_of n)) (sym c.in-Closed.is)) c.close.ensures.step

pub returns-in-Exit-clause-step : goal.returns-in-Exit-clause-step
returns-in-Exit-clause-step g c = (ap (λ n. notice (notice_of n)) c.in-Exit.is, ap (λ (s : State). s.shut) c.self.view_is)
