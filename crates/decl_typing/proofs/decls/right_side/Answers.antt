use Rattle.type_expressions.proofs.Untyped.{untyped_then, store_untyped}
use Rattle.typing_state.proofs.Going.{goes_trans}
use Rattle.std.proofs.Common.{◌≡◌, ◌∙◌, Some, None, refl, sym}
use Rattle.decl_typing.proofs.decls.right_side.Goals as goal

pub returns-in_default-clause-goes : goal.returns-in_default-clause-goes
returns-in_default-clause-goes c = c.read_other.ensures.goes

pub returns-in_default-2-clause-goes : goal.returns-in_default-2-clause-goes
returns-in_default-2-clause-goes c = c.read_other.ensures.goes

pub returns-in_err-declared_root-in-Some-clause-goes : goal.returns-in_err-declared_root-in-Some-clause-goes
returns-in_err-declared_root-in-Some-clause-goes c = goes_trans c.args.at.now c.read_other.new.at c.declared_root.new.at c.read_other.ensures.goes c.declared_root.ensures.goes

pub returns-in_err-other-clause-goes : goal.returns-in_err-other-clause-goes
returns-in_err-other-clause-goes c = c.read_other.ensures.goes

pub returns-in_ok-declared_root-in-Some-clause-goes : goal.returns-in_ok-declared_root-in-Some-clause-goes
returns-in_ok-declared_root-in-Some-clause-goes c = goes_trans c.args.at.now c.read_other.new.at c.declared_root.new.at c.read_other.ensures.goes c.declared_root.ensures.goes

pub returns-in_default-clause-own : goal.returns-in_default-clause-own
returns-in_default-clause-own c = λ own. (refl, (c.in_ok-other.ensures.own own).1)

pub returns-in_default-2-clause-own : goal.returns-in_default-2-clause-own
returns-in_default-2-clause-own c = λ own. (refl, (c.in_ok-other.ensures.own own).1)

pub returns-in_ok-declared_root-in-Some-clause-own : goal.returns-in_ok-declared_root-in-Some-clause-own
returns-in_ok-declared_root-in-Some-clause-own c = λ own. let f : Some c.in-Some.other ≡ None = sym c.in-Some.is ∙ (c.in_ok-other.ensures.own own).0 in absurd (cc)

pub returns-in_default-clause-untyped : goal.returns-in_default-clause-untyped
returns-in_default-clause-untyped c = c.in_ok-other.ensures.untyped

pub returns-in_default-2-clause-untyped : goal.returns-in_default-2-clause-untyped
returns-in_default-2-clause-untyped c = c.in_ok-other.ensures.untyped

pub returns-in_ok-declared_root-in-Some-clause-untyped : goal.returns-in_ok-declared_root-in-Some-clause-untyped
returns-in_ok-declared_root-in-Some-clause-untyped c = untyped_then c.in_ok-other.ensures.untyped (store_untyped c.read_other.new.at c.declared_root.new.at c.declared_root.ensures.rest)
