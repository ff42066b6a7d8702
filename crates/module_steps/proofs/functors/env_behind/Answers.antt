use Rattle.std.proofs.Common.{◌∙◌, sym, ap}
use Rattle.std.proofs.lemmas.Result.{IfOk-weaker}
use Rattle.module_steps.specs.Modules.{env_behind}
use Rattle.module_steps.proofs.FunctorLaws.{behind_append}
use Rattle.module_steps.proofs.functors.env_behind.Goals as goal

pub returns-in-Some : goal.returns-in-Some
returns-in-Some c =
    IfOk-weaker c.share.result _ _ (λ e is. is ∙ sym (ap (λ ps. env_behind ps c.args.env.now) c.in-Some.ensures.cases.0 ∙ behind_append c.in-Some.field-0-1.now c.in-Some.parameter.now c.args.env.now)) c.share.ensures
