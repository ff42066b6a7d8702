use Rattle.type_reading.proofs.Extending.{extends_refl, makes_extends, node_extends}
use Rattle.typing_state.proofs.Silence.{store_silent}
use Rattle.std.specs.Prelude.{IfOk}
use Rattle.std.proofs.Common.{refl, Result, Ok, Err}
use Rattle.typing_state.proofs.Going.{goes_refl}
use Rattle.type_reading.proofs.copies.Copies.variable.Goals as goal

-- what holds of each value holds where a call gives one
if_any : {A E : Type 0} (r : Result A E) (P : A → Type 0) → ((x : A) → P x) → IfOk r P
if_any (Ok x) P p = p x
if_any (Err e) P p = tt

pub returns-in-Closed-clause-goes : goal.returns-in-Closed-clause-goes
returns-in-Closed-clause-goes c = c.var_of_scope.ensures.goes

pub returns-in-Itself-bound-clause-goes : goal.returns-in-Itself-bound-clause-goes
returns-in-Itself-bound-clause-goes c = goes_refl c.args.at.now

pub returns-in-Itself-clause-goes : goal.returns-in-Itself-clause-goes
returns-in-Itself-clause-goes c = goes_refl c.args.at.now

pub returns-in-Rigid-clause-goes : goal.returns-in-Rigid-clause-goes
returns-in-Rigid-clause-goes c = c.rigid.ensures.goes

pub returns-in-Variable-bound-clause-goes : goal.returns-in-Variable-bound-clause-goes
returns-in-Variable-bound-clause-goes c = c.var-in-Variable-bound.ensures.goes

pub returns-in-Variable-clause-goes : goal.returns-in-Variable-clause-goes
returns-in-Variable-clause-goes c = c.var.ensures.goes

pub returns-in_err-made-in-Open-clause-goes : goal.returns-in_err-made-in-Open-clause-goes
returns-in_err-made-in-Open-clause-goes c = c.var_of_scope-in-Open.ensures.goes

pub returns-in_err-push-in-Open-clause-goes : goal.returns-in_err-push-in-Open-clause-goes
returns-in_err-push-in-Open-clause-goes c = c.var_of_scope-in-Open.ensures.goes

pub returns-in_ok-push-in-Open-clause-goes : goal.returns-in_ok-push-in-Open-clause-goes
returns-in_ok-push-in-Open-clause-goes c = c.var_of_scope-in-Open.ensures.goes

pub returns-then-level-ne-BOUND-clause-goes : goal.returns-then-level-ne-BOUND-clause-goes
returns-then-level-ne-BOUND-clause-goes c = goes_refl c.args.at.now

pub returns-in-Closed-clause-silent : goal.returns-in-Closed-clause-silent
returns-in-Closed-clause-silent c = store_silent c.args.at.now c.var_of_scope.new.self c.var_of_scope.ensures.rest

pub returns-in-Closed-clause-extends : goal.returns-in-Closed-clause-extends
returns-in-Closed-clause-extends c = node_extends c.var_of_scope.result c.args.at.now.store c.var_of_scope.new.self.store _ c.var_of_scope.ensures.made

pub returns-in-Closed-clause-itself : goal.returns-in-Closed-clause-itself
returns-in-Closed-clause-itself c = if_any c.var_of_scope.result _ (λ m leaves. let same = leaves.unknown in let is = c.in-Closed.is in absurd (cc))

pub returns-in-Rigid-clause-silent : goal.returns-in-Rigid-clause-silent
returns-in-Rigid-clause-silent c = store_silent c.args.at.now c.rigid.new.self c.rigid.ensures.rest

pub returns-in-Rigid-clause-extends : goal.returns-in-Rigid-clause-extends
returns-in-Rigid-clause-extends c = node_extends c.rigid.result c.args.at.now.store c.rigid.new.self.store _ c.rigid.ensures.made

pub returns-in-Rigid-clause-itself : goal.returns-in-Rigid-clause-itself
returns-in-Rigid-clause-itself c = if_any c.rigid.result _ (λ m leaves. let same = leaves.bound in let is = c.in-Rigid.is in absurd (cc))

pub returns-in-Variable-bound-clause-silent : goal.returns-in-Variable-bound-clause-silent
returns-in-Variable-bound-clause-silent c = store_silent c.args.at.now c.var-in-Variable-bound.new.self c.var-in-Variable-bound.ensures.rest

pub returns-in-Variable-bound-clause-extends : goal.returns-in-Variable-bound-clause-extends
returns-in-Variable-bound-clause-extends c = node_extends c.var-in-Variable-bound.result c.args.at.now.store c.var-in-Variable-bound.new.self.store _ c.var-in-Variable-bound.ensures.made

pub returns-in-Variable-bound-clause-itself : goal.returns-in-Variable-bound-clause-itself
returns-in-Variable-bound-clause-itself c = if_any c.var-in-Variable-bound.result _ (λ m leaves. let same = leaves.bound in let is = c.in-Variable-bound.is in absurd (cc))

pub returns-in-Variable-clause-silent : goal.returns-in-Variable-clause-silent
returns-in-Variable-clause-silent c = store_silent c.args.at.now c.var.new.self c.var.ensures.rest

pub returns-in-Variable-clause-extends : goal.returns-in-Variable-clause-extends
returns-in-Variable-clause-extends c = node_extends c.var.result c.args.at.now.store c.var.new.self.store _ c.var.ensures.made

pub returns-in-Variable-clause-itself : goal.returns-in-Variable-clause-itself
returns-in-Variable-clause-itself c = if_any c.var.result _ (λ m leaves. let same = leaves.unknown in let is = c.in-Variable.is in absurd (cc))

pub returns-in-Itself-clause-silent : goal.returns-in-Itself-clause-silent
returns-in-Itself-clause-silent c = refl

pub returns-in-Itself-clause-extends : goal.returns-in-Itself-clause-extends
returns-in-Itself-clause-extends c = extends_refl c.args.at.now.store.nodes

pub returns-in-Itself-clause-itself : goal.returns-in-Itself-clause-itself
returns-in-Itself-clause-itself c = λ leaves. (refl, refl)

pub returns-in-Itself-bound-clause-silent : goal.returns-in-Itself-bound-clause-silent
returns-in-Itself-bound-clause-silent c = refl

pub returns-in-Itself-bound-clause-extends : goal.returns-in-Itself-bound-clause-extends
returns-in-Itself-bound-clause-extends c = extends_refl c.args.at.now.store.nodes

pub returns-in-Itself-bound-clause-itself : goal.returns-in-Itself-bound-clause-itself
returns-in-Itself-bound-clause-itself c = λ leaves. (refl, refl)

pub returns-then-level-ne-BOUND-clause-silent : goal.returns-then-level-ne-BOUND-clause-silent
returns-then-level-ne-BOUND-clause-silent c = refl

pub returns-then-level-ne-BOUND-clause-extends : goal.returns-then-level-ne-BOUND-clause-extends
returns-then-level-ne-BOUND-clause-extends c = extends_refl c.args.at.now.store.nodes

pub returns-then-level-ne-BOUND-clause-itself : goal.returns-then-level-ne-BOUND-clause-itself
returns-then-level-ne-BOUND-clause-itself c = λ leaves. (refl, refl)

pub returns-in_ok-push-in-Open-clause-silent : goal.returns-in_ok-push-in-Open-clause-silent
returns-in_ok-push-in-Open-clause-silent c = store_silent c.args.at.now c.var_of_scope-in-Open.new.self c.var_of_scope-in-Open.ensures.rest

pub returns-in_err-push-in-Open-clause-silent : goal.returns-in_err-push-in-Open-clause-silent
returns-in_err-push-in-Open-clause-silent c = store_silent c.args.at.now c.var_of_scope-in-Open.new.self c.var_of_scope-in-Open.ensures.rest

pub returns-in_err-made-in-Open-clause-silent : goal.returns-in_err-made-in-Open-clause-silent
returns-in_err-made-in-Open-clause-silent c = store_silent c.args.at.now c.var_of_scope-in-Open.new.self c.var_of_scope-in-Open.ensures.rest

pub returns-in_ok-push-in-Open-clause-extends : goal.returns-in_ok-push-in-Open-clause-extends
returns-in_ok-push-in-Open-clause-extends c = makes_extends c.args.at.now.store c.var_of_scope-in-Open.new.self.store c.in_ok-made-in-Open.made.0 _ c.in_ok-made-in-Open.ensures.made

pub returns-in_ok-push-in-Open-clause-itself : goal.returns-in_ok-push-in-Open-clause-itself
returns-in_ok-push-in-Open-clause-itself c = λ leaves. let same = leaves.unknown in let is = c.in-Open.is in absurd (cc)
