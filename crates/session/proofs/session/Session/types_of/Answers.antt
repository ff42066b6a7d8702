use Rattle.std.proofs.Common.{◌≡◌, ◌∙◌, ℕ, List, ap, map, rules}
use Rattle.service_model.specs.Answers.{shown_place}
use Rattle.query_engine.specs.Typed.{span_of}
use Rattle.query_engine.specs.declared.types.Typed as engine
use Rattle.text_reading.specs.Structures.{type_text_of}
use Rattle.json_lines.specs.Means.{said_of}
use Rattle.session.proofs.Typing.{some_types}
use Rattle.session.proofs.session.Session.types_of.Goals as goal

pub returns-in_ok-shown_types-in-Ok : goal.returns-in_ok-shown_types-in-Ok
returns-in_ok-shown_types-in-Ok g c =
    let is : c.deref.result.now ≡ c.in-Ok.types.items = search rules in
    let text : c.text.result.now ≡ c.args.self.now.text = search rules in
    some_types c.args.self.now.text c.args.offset c.args.asked.now c.in-Ok.types.items c.in_ok-shown_types-in-Ok.field-0.items (said_of c.types_reply.result) c.in-Ok.ensures.places c.in-Ok.ensures.shown
    (c.in_ok-shown_types-in-Ok.ensures.places ∙ (ap (λ (t : List ℕ). map (shown_place t) (map span_of c.deref.result.now)) text ∙ ap (λ (ts : List engine.Typed). map (shown_place c.args.self.now.text) (map span_of ts)) is))
    (c.in_ok-shown_types-in-Ok.ensures.texts ∙ ap (map type_text_of) is)
    c.types_reply.ensures
