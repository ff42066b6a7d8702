use Rattle.std.proofs.Common.{◌∷◌, refl, sym, ◌∙◌, ap, subst}
use Rattle.parse_frames.specs.Stacks.{stack_view}
use Rattle.parse_frames.specs.View.{frames_view}
use Rattle.frame_steps.specs.Course.{bare}
use Rattle.frame_steps.specs.Reached.{to_close}
use Rattle.frame_steps.specs.View.{Stands}
use Rattle.frame_steps.proofs.ItemEnds.{ends_item}
use Rattle.frame_steps.proofs.items.close_item.Goals as goal

pub returns : goal.returns
returns c f S at st =
    ends_item c.args.stack.now.text f S at c.frames_to_item-count.result c.in_ok-closed.closed.holes (stack_view c.args.stack.now.frames) (stack_view c.in_ok-closed.closed.frames) _ st
    (c.frames_to_item-count.ensures.count ∙ ap (λ r. to_close r (bare (frames_view c.below.result.now))) c.number.ensures ∙ ap (λ fs. to_close (stack_view c.args.stack.now.frames).top.number (bare fs)) c.below.ensures.frames)
    (c.in_ok-closed.ensures.closed f S at (subst (λ v. Stands c.args.stack.now.text (f ∷ S) at v) (sym c.in_ok-share.ensures) st)) refl refl refl
