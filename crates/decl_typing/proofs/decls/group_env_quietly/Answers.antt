use Rattle.std.proofs.Common.{refl}
use Rattle.std.proofs.lemmas.Result.{IfOk-weaker}
use Rattle.decl_typing.proofs.decls.group_env_quietly.Goals as goal

pub returns-clause-own : goal.returns-clause-own
returns-clause-own c = IfOk-weaker c.group_env-inner.result _ _ (λ r entered own. (c.group_env-inner.new.at, entered own, refl)) c.group_env-inner.ensures.own
