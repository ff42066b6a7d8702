use Rattle.std.proofs.Common.{length, ap}
use Rattle.std.proofs.Math.Logic.{∥∥₁_elim}
use Rattle.std.proofs.Props.{props}
use Rattle.text_laws.proofs.Typable.{typable_values, typable_has_no_faults}
use Rattle.prelude_checks.proofs.Ones.{firsts_one}
use Rattle.prelude_checks.proofs.texts_that_can_be_typed_have_no_faults.Goals as goal

pub returns : goal.returns
returns c = λ text faults t refused.
    ∥∥₁_elim (refused (record { tokens = t.tokens; lexed = t.lexed; items = typable_values t.items })) (hlevel props)
    (λ f. ap length (typable_has_no_faults t.items f (firsts_one f.env t.items.env f.first t.items.first)))
