use Rattle.type_expressions.proofs.Untyped.{store_untyped, ok_any}
use Rattle.std.proofs.lemmas.Result.{IfOk-weaker}
use Rattle.type_expressions.proofs.Answering.{if_any}
use Rattle.type_expressions.proofs.Carrying.{pair_made, no_pair}
use Rattle.type_expressions.proofs.Denoting.{pair_denotes, no_pair_denotes}
use Rattle.type_expressions.proofs.types.arrow_between.Goals as goal

pub returns-then-are_two-clause-carries : goal.returns-then-are_two-clause-carries
returns-then-are_two-clause-carries c =
    IfOk-weaker c.arrow.result _ _ (λ m made item. pair_made c.args.at.now c.arrow.new.self c.args.types.now (record { 0 = 0 }) (record { 0 = 0 }) m.0 c.if-are_two.ensures made c.arrow.ensures.rest) c.arrow.ensures.made

pub returns-clause-carries : goal.returns-clause-carries
returns-clause-carries c = if_any c.unresolved.result _ (λ m item. no_pair c.args.at.now c.unresolved.new.at c.args.types.now m.0 c.if-are_two.ensures)

pub returns-then-are_two-clause-arrow : goal.returns-then-are_two-clause-arrow
returns-then-are_two-clause-arrow c =
    IfOk-weaker c.arrow.result _ _ (λ m made. pair_denotes c.args.at.now c.arrow.new.self c.args.types.now (record { 0 = 0 }) (record { 0 = 0 }) m.0 c.if-are_two.ensures made c.arrow.ensures.rest) c.arrow.ensures.made

pub returns-clause-arrow : goal.returns-clause-arrow
returns-clause-arrow c = if_any c.unresolved.result _ (λ m. no_pair_denotes c.args.at.now c.unresolved.new.at c.args.types.now m.0 c.if-are_two.ensures)

pub returns-then-are_two-clause-untyped : goal.returns-then-are_two-clause-untyped
returns-then-are_two-clause-untyped c = ok_any c.arrow.result _ (store_untyped c.args.at.now c.arrow.new.self c.arrow.ensures.rest)

pub returns-clause-untyped : goal.returns-clause-untyped
returns-clause-untyped c = ok_any c.unresolved.result _ (store_untyped c.args.at.now c.unresolved.new.at c.unresolved.ensures.rest)
