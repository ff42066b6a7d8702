use Rattle.std.proofs.Common.{sym, subst}
use Rattle.typing_steps.specs.Typing.{TypesAny}
use Rattle.typing_steps.proofs.Rows.{var_any}
use Rattle.use_typing.proofs.rows.any_type.Goals as goal

pub returns-clause-carries : goal.returns-clause-carries
returns-clause-carries c = subst (λ x. TypesAny c.args.at.now c.var.new.self x.0) (sym c.unnamed.ensures.ty) (var_any c.args.at.now c.var.new.self c.in_ok-ty.ensures.made c.var.ensures.rest)

pub returns-clause-goes : goal.returns-clause-goes
returns-clause-goes c = c.var.ensures.goes

pub returns-in_err-ty-clause-goes : goal.returns-in_err-ty-clause-goes
returns-in_err-ty-clause-goes c = c.var.ensures.goes
