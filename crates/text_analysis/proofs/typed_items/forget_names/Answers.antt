use Rattle.std.proofs.Common.{sym, subst}
use Rattle.text_analysis.specs.Given.{NoneStands}
use Rattle.text_analysis.proofs.TypedLaws.{none_stands}
use Rattle.text_analysis.proofs.typed_items.forget_names.Goals as goal

pub returns-clause-none : goal.returns-clause-none
returns-clause-none c = none_stands c.replace-old.new.dest c.replace-old.result.components c.replace-old.result.makes (subst NoneStands (sym c.replace-old.ensures.after) c.new.ensures.names)
