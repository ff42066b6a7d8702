use Rattle.std.proofs.Common.{◌≡◌, ◌∙◌, sym, subst}
use Rattle.std.proofs.lemmas.Bool.{eqb-true}
use Rattle.parse_frames.specs.Stacks.{stack_view}
use Rattle.syntax_rows.specs.Numbers.{key_number}
use Rattle.frame_steps.specs.Course.{IsRefused}
use Rattle.frame_steps.specs.View.{text_table}
use Rattle.frame_steps.proofs.steps.is_refused.Goals as goal

pub returns-in-Some : goal.returns-in-Some
returns-in-Some c h =
    let same : key_number c.in-Some.refused ≡ key_number c.args.key = sym c.number_of_key.ensures ∙ eqb-true c.number_of_key.result c.number_of_key-in-Some.result h ∙ c.number_of_key-in-Some.ensures in
    subst (IsRefused (text_table c.args.stack.now.text) (stack_view c.args.stack.now.frames)) same
    (record { fit = c.args.stack.now.no_fit c.in-Some.refused c.in-Some.is; out = c.args.stack.now.no_out c.in-Some.refused c.in-Some.is })
