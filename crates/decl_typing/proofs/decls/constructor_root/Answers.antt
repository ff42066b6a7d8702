use Rattle.type_expressions.proofs.Untyped.{untyped_same, untyped_then, store_untyped, ok_any}
use Rattle.std.proofs.lemmas.Result.{IfOk-weaker}
use Rattle.typing_state.proofs.Going.{goes_refl, goes_trans}
use Rattle.typing_rows.proofs.DeclaredOrdered.{store_reports}
use Rattle.decl_typing.proofs.Denoting.{no_part, some_part}
use Rattle.decl_typing.proofs.Constructors.{root_some, root_none}
use Rattle.decl_typing.proofs.decls.constructor_root.Goals as goal

pub returns-in-None-clause-goes : goal.returns-in-None-clause-goes
returns-in-None-clause-goes c = goes_refl c.args.at.now

pub returns-in_err-from-in-Some-clause-goes : goal.returns-in_err-from-in-Some-clause-goes
returns-in_err-from-in-Some-clause-goes c = c.read_type.ensures.goes

pub returns-in_ok-from-in-Some-clause-goes : goal.returns-in_ok-from-in-Some-clause-goes
returns-in_ok-from-in-Some-clause-goes c = goes_trans c.args.at.now c.read_type.new.at c.arrow.new.self c.read_type.ensures.goes c.arrow.ensures.goes

pub returns-in-None-clause-settles : goal.returns-in-None-clause-settles
returns-in-None-clause-settles c = λ names over has. root_none c.args.at.now c.args.inner.now names c.args.part.now c.in-None.is

pub returns-in_ok-from-in-Some-clause-settles : goal.returns-in_ok-from-in-Some-clause-settles
returns-in_ok-from-in-Some-clause-settles c =
    ok_any c.arrow.result _ (λ names over has.
    root_some c.args.at.now c.read_type.new.at c.arrow.new.self c.args.inner.now names c.args.part.now c.in-Some.argument c.in-Some.is (store_reports c.read_type.new.at c.arrow.new.self c.arrow.ensures.rest) (c.in_ok-from-in-Some.ensures.settles names over) has)

pub returns-in-None-clause-means : goal.returns-in-None-clause-means
returns-in-None-clause-means c = λ names ps t over nodes. no_part c.args.at.now c.args.inner.now names ps c.args.part.now t c.args.own.0 c.in-None.is

pub returns-in_ok-from-in-Some-clause-means : goal.returns-in_ok-from-in-Some-clause-means
returns-in_ok-from-in-Some-clause-means c =
    IfOk-weaker c.arrow.result _ _ (λ m made names ps t over nodes. some_part c.args.at.now c.read_type.new.at c.arrow.new.self c.args.inner.now names ps c.args.part.now c.in-Some.argument t c.in_ok-from-in-Some.from.0 c.args.own.0 m.0 c.in-Some.is
    (c.in_ok-from-in-Some.ensures.means names ps over nodes) made c.arrow.ensures.rest c.arrow.ensures.goes) c.arrow.ensures.made

pub returns-in-None-clause-untyped : goal.returns-in-None-clause-untyped
returns-in-None-clause-untyped c = untyped_same c.args.at.now

pub returns-in_ok-from-in-Some-clause-untyped : goal.returns-in_ok-from-in-Some-clause-untyped
returns-in_ok-from-in-Some-clause-untyped c = ok_any c.arrow.result _ (untyped_then c.in_ok-from-in-Some.ensures.untyped (store_untyped c.read_type.new.at c.arrow.new.self c.arrow.ensures.rest))
