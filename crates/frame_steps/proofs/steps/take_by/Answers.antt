use Rattle.std.proofs.Common.{◌∷◌, sym, subst}
use Rattle.syntax_tree.specs.View.{tok_of}
use Rattle.syntax_rows.specs.Numbers.{key_number}
use Rattle.parse_frames.specs.Stacks.{stack_view}
use Rattle.frame_steps.specs.View.{course_view, Stands}
use Rattle.frame_steps.proofs.Putting.{is_taken}
use Rattle.frame_steps.proofs.steps.take_by.Goals as goal

pub returns : goal.returns
returns c f S at st =
    is_taken c.args.text (stack_view c.args.frames.now) (stack_view c.in_ok-closed.closed.frames) (stack_view c.in_ok-missed.missed) (stack_view c.in_ok-take.field-0) (tok_of c.args.token.now) (course_view c.args.course) f S at
    c.in_ok-closed.closed.holes c.holes_of.result c.depth_of.result (key_number c.of.result) st
    (λ f S at st. c.in_ok-closed.ensures.closed f S at (subst (λ v. Stands c.args.text (f ∷ S) at v) (sym c.in_ok-share.ensures) st))
    c.in_ok-missed.ensures c.in_ok-take.ensures c.holes_of.ensures c.of.ensures (c.depth_of.ensures f S at st) c.if-depth_of-gt512.false
