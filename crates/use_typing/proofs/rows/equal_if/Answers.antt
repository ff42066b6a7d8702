use Rattle.typing_state.proofs.Going.{goes_refl}
use Rattle.std.proofs.Common.{refl, sym, subst}
use Rattle.syntax_tree.specs.View.{place_of}
use Rattle.typing_steps.specs.Typing.{AsksEqualIf}
use Rattle.typing_steps.proofs.Rows.{equal_asks}
use Rattle.use_typing.proofs.rows.equal_if.Goals as goal

pub returns-in_default-clause-carries : goal.returns-in_default-clause-carries
returns-in_default-clause-carries c = subst (λ o. AsksEqualIf c.args.at.now c.args.at.now c.args.env.now (place_of c.args.span) c.args.found.0 o) (sym c.in_default.is) refl

pub returns-clause-carries : goal.returns-clause-carries
returns-clause-carries c =
    subst (λ o. AsksEqualIf c.args.at.now c.equal.new.self c.args.env.now (place_of c.args.span) c.args.found.0 o) (sym c.in-Some.is)
    (equal_asks c.args.at.now c.equal.new.self c.args.env.now c.in_ok-equal.field-0 c.in_ok-equal.ensures.verdict c.equal.ensures.rest c.equal.ensures.goes)

pub returns-clause-goes : goal.returns-clause-goes
returns-clause-goes c = c.equal.ensures.goes

pub returns-in_default-clause-goes : goal.returns-in_default-clause-goes
returns-in_default-clause-goes c = goes_refl c.args.at.now

pub returns-in_err-equal-clause-goes : goal.returns-in_err-equal-clause-goes
returns-in_err-equal-clause-goes c = c.equal.ensures.goes
