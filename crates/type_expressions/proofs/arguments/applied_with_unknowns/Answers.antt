use Rattle.type_expressions.proofs.Untyped.{untyped_then, store_untyped, ok_any}
use Rattle.std.proofs.Common.{◌∙◌, ◌∷◌, ap, subst, sym}
use Rattle.std.proofs.lemmas.Result.{IfOk-weaker}
use Rattle.type_nodes.specs.Views.{numbers}
use Rattle.type_reading.specs.Filling.{Fills}
use Rattle.declared_rows.specs.Unknowns.{Opens}
use Rattle.declared_rows.specs.Applied.{AppliesWith}
use Rattle.declared_rows.proofs.Applied.{origin_applies, alone_applies, arguments_apply}
use Rattle.type_expressions.proofs.Answering.{none_given, some_given}
use Rattle.type_expressions.proofs.Filled.{each_joins}
use Rattle.type_expressions.proofs.arguments.applied_with_unknowns.Goals as goal

pub returns-in-Some-clause-means : goal.returns-in-Some-clause-means
returns-in-Some-clause-means c =
    IfOk-weaker c.constructor_over.result _ _ (λ m made. origin_applies c.args.at.now c.constructor_over.new.at c.args.declaration.now c.in-Some.origin (numbers c.args.types.now) m.0 c.in-Some.is c.constructor_over.ensures.plain made c.constructor_over.ensures.rest) c.constructor_over.ensures.made

pub returns-then-is_empty-clause-means : goal.returns-then-is_empty-clause-means
returns-then-is_empty-clause-means c =
    subst (λ ms. AppliesWith c.args.at.now c.open_unknowns.new.at c.args.declaration.now ms c.in_ok-instance.instance.0) (sym (none_given c.args.types.now c.if-is_empty.ensures))
    (alone_applies c.args.at.now c.instance.new.self c.open_unknowns.new.at c.args.declaration.now c.in_ok-instance.instance.0 c.in_ok-instance.ensures.instance c.in_ok-instance.ensures.sound c.instance.ensures.rest c.in_ok-open_unknowns.ensures.opened c.in_ok-open_unknowns.ensures.sound c.open_unknowns.ensures.rest)

pub returns-clause-means : goal.returns-clause-means
returns-clause-means c =
    let b = c.instance.new.self in
    let d = c.open_unknowns-2.new.at in
    let tup = c.in_ok-instance.instance.0 in
    IfOk-weaker c.filled.result _ _ (λ m fills.
    some_given c.args.types.now (λ ms. Fills d c.filled.new.at tup ms m.0 → AppliesWith c.args.at.now c.filled.new.at c.args.declaration.now ms m.0) c.if-is_empty.ensures (λ y ys h.
    arguments_apply c.args.at.now b d c.filled.new.at c.args.declaration.now tup y ys m.0 c.in_ok-instance.ensures.instance c.in_ok-instance.ensures.sound c.instance.ensures.rest
    (λ ps body inside reads. subst (Opens b.store.nodes d.store.nodes tup) (ap numbers c.deref.ensures.value ∙ c.in_ok-parameters.ensures ps body inside reads) (c.in_ok-open_unknowns-2.ensures.opened inside))
    c.in_ok-open_unknowns-2.ensures.sound c.open_unknowns-2.ensures.rest (λ ps body inside reads many. let f = h ps body inside reads many in (each_joins d c.filled.new.at ps (y ∷ ys) f.0, f.1))) fills) c.filled.ensures.fills

pub returns-in-Some-clause-untyped : goal.returns-in-Some-clause-untyped
returns-in-Some-clause-untyped c = ok_any c.constructor_over.result _ (store_untyped c.args.at.now c.constructor_over.new.at c.constructor_over.ensures.rest)

pub returns-then-is_empty-clause-untyped : goal.returns-then-is_empty-clause-untyped
returns-then-is_empty-clause-untyped c = untyped_then (store_untyped c.args.at.now c.instance.new.self c.instance.ensures.rest) (store_untyped c.instance.new.self c.open_unknowns.new.at c.open_unknowns.ensures.rest)

pub returns-clause-untyped : goal.returns-clause-untyped
returns-clause-untyped c = ok_any c.filled.result _ (untyped_then (store_untyped c.args.at.now c.instance.new.self c.instance.ensures.rest) (untyped_then (store_untyped c.instance.new.self c.open_unknowns-2.new.at c.open_unknowns-2.ensures.rest) (store_untyped c.open_unknowns-2.new.at c.filled.new.at c.filled.ensures.rest)))
