use Rattle.typing_model.specs.Typings.{no_choice}
use Rattle.typing_laws.proofs.Decided.{asked_alike}
use Rattle.typing_laws.proofs.SteadyTexts.{text_together}
use Rattle.typing_laws.proofs.keeping.demands_are_asked_in_order.Goals as goal

pub returns : goal.returns
returns c = λ env text kept others s i same. let r = asked_alike s (text_together {k = kept} {m = others} env text no_choice) i same in (r.asked, r.before, r.closing)
