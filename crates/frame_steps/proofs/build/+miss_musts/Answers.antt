use Rattle.std.proofs.Common.{◌≡◌, Some, None, option_map, sym, ◌∙◌, ap}
use Rattle.std.proofs.lemmas.Result.{IfOk-weaker}
use Rattle.recovery_model.specs.Numbers.{must_at}
use Rattle.grammar_model.specs.Ocaml.{row_name}
use Rattle.parse_frames.specs.Stacks.{stack_view}
use Rattle.frame_steps.specs.View.{text_table}
use Rattle.frame_steps.proofs.Named.{missing_named, musts_none, musts_some}
use Rattle.frame_steps.proofs.build.+miss_musts.Goals as goal

pub returns-in-None : goal.returns-in-None
returns-in-None t c f S at named =
    let G = text_table c.args.text in
    let m : None ≡ option_map (λ e. e.spot) (must_at G (stack_view c.args.frames).top.number (stack_view c.args.frames).top.spot) =
    sym c.in-None.is ∙ c.must_come.ensures ∙ ap (λ r. option_map (λ e. e.spot) (must_at G r c.spot.result)) c.number.ensures ∙ ap (λ p. option_map (λ e. e.spot) (must_at G (stack_view c.args.frames).top.number p)) c.spot.ensures in
    musts_none G row_name c.args.musts f S at (stack_view c.args.frames) m named

pub returns-in_ok-miss-in-Some : goal.returns-in_ok-miss-in-Some
returns-in_ok-miss-in-Some t c =
    let G = text_table c.args.text in
    let m : Some c.in-Some.spot ≡ option_map (λ e. e.spot) (must_at G (stack_view c.args.frames).top.number (stack_view c.args.frames).top.spot) =
    sym c.in-Some.is ∙ c.must_come.ensures ∙ ap (λ r. option_map (λ e. e.spot) (must_at G r c.spot.result)) c.number.ensures ∙ ap (λ p. option_map (λ e. e.spot) (must_at G (stack_view c.args.frames).top.number p)) c.spot.ensures in
    IfOk-weaker c.miss_musts.result _ _ (λ x i f S at named.
    musts_some G row_name c.args.musts f S at c.in-Some.spot (stack_view c.args.frames) (stack_view x) c.if-musts-eq0.false m named
    (i _ S at (missing_named G row_name f S at c.in-Some.spot (stack_view c.args.frames) named ∙ sym c.in_ok-miss-in-Some.ensures))) c.miss_musts.ensures
