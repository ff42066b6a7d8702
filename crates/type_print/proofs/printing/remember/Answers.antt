use Rattle.std.proofs.Common.{◌∙◌, refl}
use Rattle.type_print.proofs.printing.remember.Goals as goal

pub returns : goal.returns
returns c = record { one = _; path = c.in_ok-path.ensures ∙ c.deref.ensures.value; spelled = refl; last = c.in_ok-add_known.ensures }
