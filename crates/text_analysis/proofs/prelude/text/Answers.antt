use Rattle.std.proofs.Common.{refl}
use Rattle.typing_model.specs.PreludeText.{prelude_text}
use Rattle.text_analysis.proofs.prelude.text.Goals as goal

-- both texts are the same bytes
pub returns : goal.returns
unfolding prelude_text
returns c = refl
