use Rattle.std.proofs.Common.{◌∙◌, ap, sym}
use Rattle.std.specs.Prelude.{option_map}
use Rattle.text_model.proofs.Whole.{whole_edit}
use Rattle.text_terms.specs.Bytes.{str_bytes}
use Rattle.service_model.specs.Answers.{tell_outcome}
use Rattle.json_lines.specs.Meets.{range_of}
use Rattle.session.proofs.session.Session.edit_for.Goals as goal

pub returns-in-None : goal.returns-in-None
returns-in-None g c =
    whole_edit c.args.self.now.text (str_bytes c.args.text) (c.last_place.result.line, c.last_place.result.col) c.last_place.ensures.utf8 c.last_place.ensures.place
    ∙ ap (λ r. tell_outcome c.args.self.now.text (option_map range_of r) (str_bytes c.args.text)) (sym c.in-None.is)
