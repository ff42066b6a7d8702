use Rattle.std.proofs.Common.{subst}
use Rattle.std.proofs.lemmas.Result.{IfOk-weaker}
use Rattle.decl_typing.specs.Entries.{EntersNames}
use Rattle.type_expressions.proofs.Untyped.{ok_any}
use Rattle.decl_typing.proofs.decls.group_env.Goals as goal

pub returns-clause-goes : goal.returns-clause-goes
returns-clause-goes c = c.sketched.ensures.goes

pub returns-in_err-declared-clause-goes : goal.returns-in_err-declared-clause-goes
returns-in_err-declared-clause-goes c = c.sketched.ensures.goes

pub returns-clause-untyped : goal.returns-clause-untyped
returns-clause-untyped c = ok_any c.with_names.result _ c.in_ok-declared.ensures.untyped

pub returns-clause-own : goal.returns-clause-own
returns-clause-own c = IfOk-weaker c.with_names.result _ _ (λ r names own. record { declared = c.in_ok-declared.declared.items; are = c.in_ok-declared.ensures.own own; names = subst (λ ds. EntersNames c.args.parts.now ds c.args.env.now r) c.deref.ensures.value names }) c.with_names.ensures
