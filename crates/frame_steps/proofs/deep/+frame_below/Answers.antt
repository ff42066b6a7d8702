use Rattle.std.proofs.Common.{◌+◌, min, refl, ◌∙◌, ap}
use Rattle.frame_steps.proofs.Takers.{first_waiting, first_takes, next_takes}
use Rattle.frame_steps.proofs.deep.+frame_below.Goals as goal

pub returns-then-closed-eq0 : goal.returns-then-closed-eq0
returns-then-closed-eq0 t c f S at named low high count =
    first_takes c.args.text f S at c.args.closed _ c.deref.result.now c.deref-then-closed-eq0.result.now
    (first_waiting c.args.frames.now c.in-Some.level c.deref.result.now S c.in-Some.is c.deref.ensures named)
    (first_waiting c.args.frames.now c.in-Some.level c.deref-then-closed-eq0.result.now S c.in-Some.is c.deref-then-closed-eq0.ensures named)
    c.if-closed-eq0.true refl refl high count

pub returns-else-closed-eq0 : goal.returns-else-closed-eq0
returns-else-closed-eq0 t c f S at named low high count =
    next_takes c.args.text f S at c.args.closed c.args.height c.args.below c.height_of_level.result c.saturating_add-height.result c.frame_below.result c.deref-in-Some.result.now c.deref-in-Some-2.result.now
    (first_waiting c.args.frames.now c.in-Some.level c.deref-in-Some.result.now S c.in-Some.is c.deref-in-Some.ensures named)
    (first_waiting c.args.frames.now c.in-Some.level c.deref-in-Some-2.result.now S c.in-Some.is c.deref-in-Some-2.ensures named)
    c.if-closed-eq0.false low high count c.height_of_level.ensures (c.saturating_add-height.ensures ∙ ap (λ n. min (n + 1) 65535) c.max.ensures) c.frame_below.ensures
