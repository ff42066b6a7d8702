use Rattle.std.proofs.Common.{option_map, refl, sym, ◌∙◌, ap}
use Rattle.std.proofs.lemmas.Result.{IfOk-weaker}
use Rattle.grammar_model.specs.Keys.{key_of}
use Rattle.grammar_model.specs.Tables.{first_place}
use Rattle.syntax_tree.specs.View.{tok_of}
use Rattle.syntax_rows.specs.Numbers.{key_number}
use Rattle.parse_frames.specs.Stacks.{stack_view}
use Rattle.frame_steps.specs.View.{text_table}
use Rattle.frame_steps.proofs.Grows.{grow_row, grow_takes, grow_some, grow_named}
use Rattle.frame_steps.proofs.build.grow.Goals as goal

pub start-requires-clause-takes : goal.start-requires-clause-takes
start-requires-clause-takes c =
    grow_takes c.args.text ((text_table c.args.text).what c.number.result c.spot.result) (key_of (tok_of c.args.token.now)) (key_number c.of.result) c.in-Some.row c.spot_begun.result c.in-Some-2.grown.number (stack_view c.args.frames.now) (stack_view c.in-Some-2.grown)
    (sym c.in-Some.is ∙ c.row_grown.ensures) c.of.ensures c.spot_begun.ensures (ap (option_map stack_view) (sym c.in-Some-2.is) ∙ c.in_ok-grow-in-Some.ensures) refl

pub returns-in-None : goal.returns-in-None
returns-in-None c =
    IfOk-weaker c.share.result _ _ (λ x i f S at named.
    absurd (grow_row c.args.text c.number.result c.spot.result (stack_view c.args.frames.now).last (key_of (tok_of c.args.token.now)) (key_number c.of.result)
    (ap (λ p. first_place (text_table c.args.text) c.number.result p (stack_view c.args.frames.now).last (key_of (tok_of c.args.token.now))) c.spot.ensures
    ∙ ap (λ r. first_place (text_table c.args.text) r (stack_view c.args.frames.now).top.spot (stack_view c.args.frames.now).last (key_of (tok_of c.args.token.now))) c.number.ensures ∙ c.requires.place)
    (sym c.in-None.is ∙ c.row_grown.ensures) c.of.ensures)) c.share.ensures

pub returns-in-None-2 : goal.returns-in-None-2
returns-in-None-2 c =
    IfOk-weaker c.share-in-None-2.result _ _ (λ x i f S at named.
    absurd (grow_some c.args.text f S at c.in-Some.row (stack_view c.args.frames.now) (tok_of c.args.token.now) named c.requires.place (ap (option_map stack_view) (sym c.in-None-2.is) ∙ c.in_ok-grow-in-Some.ensures))) c.share-in-None-2.ensures

pub returns-in-Some-2 : goal.returns-in-Some-2
returns-in-Some-2 c =
    grow_named c.args.text c.in-Some.row c.spot_begun.result c.number.result c.spot.result (key_number c.of.result) (stack_view c.args.frames.now) (stack_view c.in-Some-2.grown) (tok_of c.args.token.now) c.start.result
    c.number.ensures c.spot.ensures (sym c.in-Some.is ∙ c.row_grown.ensures) c.of.ensures c.spot_begun.ensures (ap (option_map stack_view) (sym c.in-Some-2.is) ∙ c.in_ok-grow-in-Some.ensures) c.requires.place c.start.ensures
