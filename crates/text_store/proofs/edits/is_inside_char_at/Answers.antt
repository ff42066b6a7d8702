use Rattle.std.proofs.Common.{sym, ◌∙◌}
use Rattle.text_store.proofs.Wholes.{none_inside}
use Rattle.text_store.proofs.edits.is_inside_char_at.Goals as goal

pub returns-in-None : goal.returns-in-None
returns-in-None c = none_inside c.args.text.now.items c.args.place (sym c.byte_at.ensures ∙ c.in-None.is)
