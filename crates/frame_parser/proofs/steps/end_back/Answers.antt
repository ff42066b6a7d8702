use Rattle.std.proofs.Common.{◌+◌, length, reverse, Some, refl, ◌∙◌, arith}
use Rattle.std.proofs.lemmas.List.{length-reverse}
use Rattle.std.proofs.lemmas.Result.{IfOk-weaker}
use Rattle.grammar_model.specs.Ocaml.{grammar}
use Rattle.recovery_model.specs.Items.{parser, item, sound}
use Rattle.recovery_model.specs.Recovery.{go_back}
use Rattle.frame_parser.specs.Shown.{tokens_view}
use Rattle.frame_parser.proofs.Comes.{all_reached}
use Rattle.frame_parser.proofs.Ends.{whole_shows, end_shows}
use Rattle.frame_parser.proofs.Rows.{standing, place_shows}
use Rattle.frame_parser.proofs.steps.end_back.Goals as goal

pub close_up-requires : goal.close_up-requires
close_up-requires c =
    let (n, r, le) = c.requires.ready in
    let ts = reverse (tokens_view c.args.since.now) in
    let d = length-reverse (tokens_view c.args.since.now) in
    let p = parser r.state (Some (item c.args.col sound)) in
    let back = (c.in_ok-back.ensures r.text r.state ts n r.shows refl r.reached (omega arith)).step in
    record { standing = standing r.text (go_back (grammar r.text) c.args.col r.state ts).parser.state (n + length ts) c.in_ok-back.back.stepped.stack.rows back.stack.rows (all_reached r.text ts n p r.reached) (omega arith) }

pub returns : goal.returns
returns c =
    IfOk-weaker c.ended.result _ _ (λ r e text s ts n shows same reached few.
    let x = go_back (grammar text) c.args.col s ts in
    let back = (c.in_ok-back.ensures text s ts n shows same reached few).step in
    let at = all_reached text ts n (parser s (Some (item c.args.col sound))) reached in
    end_shows c.args.from text x.parser.state c.in_ok-whole.whole r c.place.result c.in_ok-back.back.stepped.faults.items x.faults
    (whole_shows c.args.from text x.parser.state (n + length ts) c.in_ok-back.back.stepped.stack.rows c.in_ok-whole.whole back.stack.rows at few c.in_ok-whole.ensures.tree c.in_ok-whole.ensures.holes)
    e.0 e.1 (c.place.ensures ∙ place_shows text x.parser.state c.in_ok-back.back.stepped.stack.rows back.stack.rows) back.faults) c.ended.ensures
