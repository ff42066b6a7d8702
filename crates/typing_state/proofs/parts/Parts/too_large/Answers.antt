use Rattle.typing_state.proofs.Going.{goes_refl}
use Rattle.std.specs.Prelude.{string_bytes}
use Rattle.typing_state.proofs.Faulting.{told_with}
use Rattle.typing_state.proofs.parts.Parts.too_large.Goals as goal

pub returns-clause-told : goal.returns-clause-told
returns-clause-told c = told_with c.report.result string_bytes c.format.result c.in_ok-text.text c.args.self.now.telling _ _ c.args.at _ _ c.in_ok-text.ensures c.format.ensures.ok c.report.ensures.told

pub returns-clause-goes : goal.returns-clause-goes
returns-clause-goes c = c.report.ensures.goes

pub returns-in_err-text-clause-goes : goal.returns-in_err-text-clause-goes
returns-in_err-text-clause-goes c = goes_refl c.args.self.now
