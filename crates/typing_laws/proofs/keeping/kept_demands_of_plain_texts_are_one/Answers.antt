use Rattle.std.proofs.Common.{sym, ◌∙◌}
use Rattle.typing_laws.proofs.Bools.{no_yes}
use Rattle.typing_laws.proofs.Decided.{are_one}
use Rattle.typing_laws.proofs.QuietTexts.{no_closings}
use Rattle.typing_laws.proofs.keeping.kept_demands_of_plain_texts_are_one.Goals as goal

pub returns : goal.returns
returns c = λ env text kept others plain k o. are_one env text kept others k o (λ s e f same. absurd (no_yes (sym (no_closings env text kept plain s) ∙ e)))
