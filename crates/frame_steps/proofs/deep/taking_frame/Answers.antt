use Rattle.std.proofs.Common.{◌+◌, ◌-◌, min, ◌∙◌, ap}
use Rattle.parse_frames.specs.Stacks.{stack_view}
use Rattle.parse_frames.specs.View.{frames_view}
use Rattle.frame_steps.proofs.Takers.{top_takes, below_takes}
use Rattle.frame_steps.proofs.deep.taking_frame.Goals as goal

pub returns-then-closed-eq0 : goal.returns-then-closed-eq0
returns-then-closed-eq0 c f S at st =
    top_takes c.args.text f S at c.args.closed (stack_view c.args.frames.now) _ st c.if-closed-eq0.true c.number.ensures c.spot.ensures c.newest_height.ensures (ap (λ n. n - c.args.closed) c.waiting.ensures)

pub returns : goal.returns
returns c f S at st =
    below_takes c.args.text f S at c.args.closed (c.waiting.result - c.args.closed) c.saturating_add-height.result (stack_view c.args.frames.now) (frames_view c.below.result.now) c.frame_below.result st c.if-closed-eq0.false c.requires.enough
    (ap (λ n. n - c.args.closed) c.waiting.ensures) (c.saturating_add-height.ensures ∙ ap (λ n. min (n + 1) 65535) c.height.ensures) c.below.ensures.frames c.frame_below.ensures
