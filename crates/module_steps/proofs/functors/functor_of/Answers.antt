use Rattle.std.proofs.Common.{refl}
use Rattle.std.proofs.lemmas.Result.{IfOk-weaker}
use Rattle.module_steps.proofs.FunctorLaws.{over_one}
use Rattle.module_steps.proofs.functors.functor_of.Goals as goal

pub returns : goal.returns
returns c =
    IfOk-weaker c.owned-2.result _ _ (λ t is. over_one t.value (record { made = c.new.result; sig = c.in_ok-owned.field-0 }) c.in_ok-shared.field-0 c.args.body c.args.parameter.now.value c.args.body.value is c.new.ensures.items c.in_ok-owned.ensures c.in_ok-shared.ensures refl) c.owned-2.ensures
