use Rattle.std.proofs.Common.{◌≡◌, Some, None, option_map, sym, ◌∙◌, ap}
use Rattle.recovery_model.specs.Numbers.{must_at}
use Rattle.grammar_model.specs.Ocaml.{row_name}
use Rattle.parse_frames.specs.Stacks.{stack_view}
use Rattle.frame_steps.specs.View.{text_table}
use Rattle.frame_steps.proofs.Named.{missing_named, fill_none, fill_some}
use Rattle.frame_steps.proofs.build.+fill.Goals as goal

pub returns-in-None-clause-filled : goal.returns-in-None-clause-filled
returns-in-None-clause-filled t c f S at named =
    let G = text_table c.args.text in
    let m : None ≡ option_map (λ e. e.spot) (must_at G (stack_view c.args.frames).top.number (stack_view c.args.frames).top.spot) =
    sym c.in-None.is ∙ c.must_come.ensures ∙ ap (λ r. option_map (λ e. e.spot) (must_at G r c.spot.result)) c.number.ensures ∙ ap (λ p. option_map (λ e. e.spot) (must_at G (stack_view c.args.frames).top.number p)) c.spot.ensures in
    fill_none G row_name c.args.most f S at (stack_view c.args.frames) m named

pub returns-in_ok-filled-in-Some-clause-filled : goal.returns-in_ok-filled-in-Some-clause-filled
returns-in_ok-filled-in-Some-clause-filled t c f S at named =
    let G = text_table c.args.text in
    let m : Some c.in-Some.spot ≡ option_map (λ e. e.spot) (must_at G (stack_view c.args.frames).top.number (stack_view c.args.frames).top.spot) =
    sym c.in-Some.is ∙ c.must_come.ensures ∙ ap (λ r. option_map (λ e. e.spot) (must_at G r c.spot.result)) c.number.ensures ∙ ap (λ p. option_map (λ e. e.spot) (must_at G (stack_view c.args.frames).top.number p)) c.spot.ensures in
    fill_some G row_name c.args.most f S at c.in-Some.spot (stack_view c.args.frames) (stack_view c.in_ok-filled-in-Some.filled.frames) c.in_ok-filled-in-Some.filled.holes c.if-most-eq0.false m named
    (c.in_ok-filled-in-Some.ensures.filled _ S at (missing_named G row_name f S at c.in-Some.spot (stack_view c.args.frames) named ∙ sym c.in_ok-missed-in-Some.ensures))
