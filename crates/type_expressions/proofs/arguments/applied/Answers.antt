use Rattle.type_expressions.proofs.Untyped.{untyped_then, store_untyped, ok_any}
use Rattle.std.proofs.Common.{sym, subst}
use Rattle.std.proofs.lemmas.Result.{IfOk-weaker}
use Rattle.type_nodes.specs.Views.{numbers}
use Rattle.type_reading.specs.Filling.{Fills}
use Rattle.typing_rows.specs.Declaring.{AppliesTo}
use Rattle.typing_rows.proofs.Declared.{origin_applied, alone_applied}
use Rattle.type_expressions.proofs.Answering.{none_given, some_given}
use Rattle.type_expressions.proofs.Filled.{filled_applies}
use Rattle.type_expressions.proofs.arguments.applied.Goals as goal

pub returns-in-Some-clause-carries : goal.returns-in-Some-clause-carries
returns-in-Some-clause-carries c =
    IfOk-weaker c.constructor_over.result _ _ (λ m made. origin_applied c.args.at.now c.constructor_over.new.at c.args.declaration.now c.in-Some.origin (numbers c.args.types.now) m.0 c.in-Some.is c.constructor_over.ensures.plain made c.constructor_over.ensures.rest) c.constructor_over.ensures.made

pub returns-then-is_empty-clause-carries : goal.returns-then-is_empty-clause-carries
returns-then-is_empty-clause-carries c =
    subst (λ ms. AppliesTo c.args.at.now c.instance.new.self c.args.declaration.now ms c.in_ok-instance.instance.0) (sym (none_given c.args.types.now c.if-is_empty.ensures))
    (alone_applied c.args.at.now c.instance.new.self c.args.declaration.now c.in_ok-instance.instance.0 c.in_ok-instance.ensures.instance c.in_ok-instance.ensures.sound c.instance.ensures.rest)

pub returns-clause-carries : goal.returns-clause-carries
returns-clause-carries c =
    IfOk-weaker c.filled.result _ _ (λ m fills.
    some_given c.args.types.now (λ ms. Fills c.instance.new.self c.filled.new.at c.in_ok-instance.instance.0 ms m.0 → AppliesTo c.args.at.now c.filled.new.at c.args.declaration.now ms m.0) c.if-is_empty.ensures (λ y ys h.
    filled_applies c.args.at.now c.instance.new.self c.filled.new.at c.args.declaration.now c.in_ok-instance.instance.0 y ys m.0 c.in_ok-instance.ensures.instance c.in_ok-instance.ensures.sound c.instance.ensures.rest h) fills) c.filled.ensures.fills

pub returns-in-Some-clause-untyped : goal.returns-in-Some-clause-untyped
returns-in-Some-clause-untyped c = ok_any c.constructor_over.result _ (store_untyped c.args.at.now c.constructor_over.new.at c.constructor_over.ensures.rest)

pub returns-then-is_empty-clause-untyped : goal.returns-then-is_empty-clause-untyped
returns-then-is_empty-clause-untyped c = store_untyped c.args.at.now c.instance.new.self c.instance.ensures.rest

pub returns-clause-untyped : goal.returns-clause-untyped
returns-clause-untyped c = ok_any c.filled.result _ (untyped_then (store_untyped c.args.at.now c.instance.new.self c.instance.ensures.rest) (store_untyped c.instance.new.self c.filled.new.at c.filled.ensures.rest))
