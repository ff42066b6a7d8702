use Rattle.typing_state.proofs.Going.{goes_refl}
use Rattle.std.proofs.Common.{◌∙◌, ap, sym, refl}
use Rattle.std.specs.Prelude.{option_copied}
use Rattle.pattern_typing.proofs.Carrying.{if_any, first_read, none_read}
use Rattle.pattern_typing.proofs.patterns.first_type.Goals as goal

pub returns-in-Some-clause-first : goal.returns-in-Some-clause-first
returns-in-Some-clause-first c = λ o os is. (first_read c.args.typed.now c.in-Some.first.now (sym c.first.ensures.value ∙ ap option_copied c.in-Some.is), refl)

pub returns-in-None-clause-first : goal.returns-in-None-clause-first
returns-in-None-clause-first c = if_any c.var.result _ (λ m o os is. absurd (none_read c.args.typed.now o os (sym c.first.ensures.value ∙ ap option_copied c.in-None.is) is))

pub returns-in-None-clause-goes : goal.returns-in-None-clause-goes
returns-in-None-clause-goes c = c.var.ensures.goes

pub returns-in-Some-clause-goes : goal.returns-in-Some-clause-goes
returns-in-Some-clause-goes c = goes_refl c.args.at.now
