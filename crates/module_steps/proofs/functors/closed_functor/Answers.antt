use Rattle.typing_state.proofs.Going.{goes_refl}
use Rattle.std.proofs.Common.{◌≡◌, ◌∙◌, ap, subst, List, length, true}
use Rattle.std.specs.Prelude.{◌==◌}
use Rattle.std.proofs.lemmas.Result.{IfOk-weaker}
use Rattle.module_steps.specs.declared.functors.Taken.{Taken}
use Rattle.module_steps.specs.Modules.{IsFunctor}
use Rattle.module_steps.proofs.Opening.{closed_over}
use Rattle.module_steps.proofs.functors.closed_functor.Goals as goal

pub returns-clause-closed : goal.returns-clause-closed
returns-clause-closed c =
    IfOk-weaker c.functor_over.result _ _ (λ m is. closed_over c.args.taken.items c.args.made m (λ e. let f = c.if-is_empty.false in let h : c.is_empty.result ≡ true = c.is_empty.ensures ∙ ap (λ (ps : List Taken). length ps == 0) (c.as_slice-parameters.ensures.value ∙ e) in cc) (subst (λ ps. IsFunctor ps c.args.made m) c.as_slice-parameters.ensures.value is)) c.functor_over.ensures

pub returns-clause-goes : goal.returns-clause-goes
returns-clause-goes c = c.ask_closed.ensures.goes

pub returns-in_err-ask_closed-clause-goes : goal.returns-in_err-ask_closed-clause-goes
returns-in_err-ask_closed-clause-goes c = c.ask_closed.ensures.goes

pub returns-then-is_empty-clause-goes : goal.returns-then-is_empty-clause-goes
returns-then-is_empty-clause-goes c = goes_refl c.args.at.now
