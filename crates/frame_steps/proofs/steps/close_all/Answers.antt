use Rattle.std.proofs.Common.{◌∷◌, refl, sym, subst}
use Rattle.parse_frames.specs.Stacks.{stack_view}
use Rattle.frame_steps.specs.View.{Stands}
use Rattle.frame_steps.proofs.Wholes.{whole_few, whole_named}
use Rattle.frame_steps.proofs.steps.close_all.Goals as goal

pub returns-clause-whole : goal.returns-clause-whole
returns-clause-whole c f S at st =
    whole_named c.args.stack.now.text f S at c.waiting.result c.in_ok-closed.closed.holes c.in_ok-whole.whole.holes (stack_view c.args.stack.now.frames) (stack_view c.in_ok-closed.closed.frames) _ st c.waiting.ensures
    (λ f S at st. c.in_ok-closed.ensures.closed f S at (subst (λ v. Stands c.args.stack.now.text (f ∷ S) at v) (sym c.in_ok-share.ensures) st))
    c.in_ok-whole.ensures.filled refl

pub returns-clause-few : goal.returns-clause-few
returns-clause-few c =
    whole_few c.args.stack.now.text c.waiting.result c.in_ok-closed.closed.holes c.in_ok-whole.whole.holes (stack_view c.args.stack.now.frames) (stack_view c.in_ok-closed.closed.frames) (stack_view c.in_ok-whole.whole.frames) c.requires.standing
    (λ f S at st. c.in_ok-closed.ensures.closed f S at (subst (λ v. Stands c.args.stack.now.text (f ∷ S) at v) (sym c.in_ok-share.ensures) st))
    c.in_ok-whole.ensures.filled
